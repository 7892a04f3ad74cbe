pub mod Causes
pub mod Ends
pub mod StdEnds
pub mod Telling
pub use Causes.{AppendsPrefix, HasCause, HasCauseOf, LosesAtMost, LosesCount, Moves, Rose}
pub use Ends.{FailsPut, Given, Taken, after_failed_finish, after_failed_put, after_failed_take, after_finish, after_put, after_take}
pub use Ends.{bytes_taken, handed, opened_sink, opened_source}
pub use StdEnds.{is_flushed, put_faults, reader_of, take_faults, writer_of}
pub use Telling.{IsTold}
