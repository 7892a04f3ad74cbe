pub mod Channels
pub mod Enablers
pub mod Kept
pub mod Roomed
pub use Channels.{AreAllOf, Channel, HasSide, IsFifo, IsSink, IsSoundKind, IsSource, channel_at, deepened, deepened_channels, depth_of}
pub use Channels.{first_module, free_of, lag_of, nth, places_of, push_of, unused, values_of, with_pop, with_push}
pub use Enablers.{enabler_by, enabler_of, event_at}
pub use Kept.{places_numbered, pushes_in}
pub use Roomed.{RoomedChannels, bare_channels, channel_of, pop_rooms_of, push_rooms_of}
pub use declared.{channel.Pushed.Pushed, channel.RoomyChannel.RoomyChannel, channel.TableChannel.TableChannel, enabler.Enabler.Enabler}
pub use Rattle.flow_word.specs.{Place, Side, UsesPlace}
