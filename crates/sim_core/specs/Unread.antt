-- The values of a channel that came back unread with a run, and go into its next mail.
use Rattle.std.specs.Prelude.{ℕ, ◌<◌, List, [], drop, slice_index_or}
use Rattle.event_timing.specs.{Begins}
use Rattle.sim_core.specs.declared.unread.Unread.{Unread}

abbrev pub none_unread : Unread
none_unread = record { skipped = 0; values = [] }

abbrev pub unread_at : List Unread → ℕ → Unread
unread_at unread c = slice_index_or unread c none_unread

-- the unread values come next among all values of the channel, after its first `skipped`
abbrev pub IsUnread : List ℕ → Unread → Type 0
IsUnread all unread = Begins (drop unread.skipped all) unread.values

-- for each of the first n channels the unread values come next among all its values
abbrev pub AreUnread : (ℕ → List ℕ) → ℕ → List Unread → Type 0
AreUnread all n unread = (c : ℕ) → c < n → IsUnread (all c) (unread_at unread c)
