use Rattle.std.proofs.Common.{◌∙◌, sym, subst, List}
use Rattle.cycle_changes.specs.{Lane, Put, ArePut}
use Rattle.cycle_changes.proofs.Putting.{put_less, can_take_back}
use Rattle.cycle_changes.proofs.puts.undo.Goals as goal

pub put-requires-clause-below : goal.put-requires-clause-below
put-requires-clause-below g c =
    let are = subst (λ (ps : List Put). ArePut c.loop-put.invariant.some.0 ps c.loop-put.graph.lanes) c.in-Some.ensures.items
    c.loop-put.invariant.some.1 in
    (can_take_back _ c.pop.new.self.items c.in-Some.put c.loop-put.graph.lanes are).below

pub put-requires-clause-rising : goal.put-requires-clause-rising
put-requires-clause-rising g c =
    let are = subst (λ (ps : List Put). ArePut c.loop-put.invariant.some.0 ps c.loop-put.graph.lanes) c.in-Some.ensures.items
    c.loop-put.invariant.some.1 in
    (can_take_back _ c.pop.new.self.items c.in-Some.put c.loop-put.graph.lanes are).rising

pub loop-put-preserved : goal.loop-put-preserved
loop-put-preserved g c =
    let less = λ (first : List Lane) (are : ArePut first c.loop-put.puts.items c.loop-put.graph.lanes).
    subst (ArePut first c.pop.new.self.items) (sym c.put.ensures.lanes)
    (put_less first c.pop.new.self.items c.in-Some.put c.loop-put.graph.lanes
    (subst (λ (ps : List Put). ArePut first ps c.loop-put.graph.lanes) c.in-Some.ensures.items are)) in
    record {
      some = (c.loop-put.invariant.some.0, less c.loop-put.invariant.some.0 c.loop-put.invariant.some.1);
      all = λ first are. less first (c.loop-put.invariant.all first are);
      rooms = c.put.ensures.rooms ∙ c.loop-put.invariant.rooms;
    }
