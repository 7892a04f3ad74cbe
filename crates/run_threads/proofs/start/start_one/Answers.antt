use denote.Param.Send.{sendable}
use Rattle.run_threads.proofs.Crossing.{answered_send, hub_sync, driver_send}
use Rattle.run_threads.proofs.wakers.Wakers.TheSendSync as wakers
use Rattle.run_threads.proofs.start.start_one.Goals as goal

pub spawn_with-requires-send-F : goal.spawn_with-requires-send-F
spawn_with-requires-send-F g c κs within = search (hub_sync, driver_send, wakers.the_sync, c.type_bounds, sendable) depth 60 fits 20000

pub spawn_with-requires-send-T : goal.spawn_with-requires-send-T
spawn_with-requires-send-T g c κs within = search (answered_send, sendable) depth 30 fits 5000
