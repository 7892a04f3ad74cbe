-- Sums over the links of a chain, and over what was polled for along it.
use Rattle.std.specs.Prelude.{ℕ, suc, ◌-◌, ◌<◌, ◌≤◌, ◌==◌, List, All, IfSome, if◌then◌else◌, count_by, length, slice_index, sum_by}
use Rattle.flow_word.specs.{Side, declared.access.Side.TheVariants.Pop, declared.access.Side.TheVariants.Push}
use Rattle.flow_design.specs.{Design, is_port}
use Rattle.depth_order.specs.{Link}
use Rattle.path_text.specs.declared.link.Polled.{Polled}

-- how many clocks a link has
abbrev pub link_clocks : Link → ℕ
link_clocks l = suc l.last - l.first

-- how many clocks a link has in module m: none where it is of another module
abbrev pub clocks_at : ℕ → Link → ℕ
clocks_at m l = if l.module == m then link_clocks l else 0

-- the clocks that a chain spends in module m
abbrev pub clocks_spent : List Link → ℕ → ℕ
clocks_spent links m = sum_by (clocks_at m) links

-- how often a chain crosses channel f at this side, that is, where a module could not pop, or not push
abbrev pub crossings : List Link → Side → ℕ → ℕ
crossings links side f = count_by (λ l. is_port (record { side = side; channel = f }) l.crossed) links

-- the entry of channel f: in the first list for its popping side, and in the second for its pushing side
abbrev pub at_sides : List ℕ → List ℕ → Side → ℕ → ℕ
at_sides popped pushed Pop f = slice_index popped f
at_sides popped pushed Push f = slice_index pushed f

-- the clocks in which an element waits for the query that finds it: those between its push and the query
abbrev pub clocks_waiting : Polled → ℕ
clocks_waiting q = (q.found - q.pushed) - 1

-- how often a chain goes back to a push on channel f that was polled for
abbrev pub times_polled : List Polled → ℕ → ℕ
times_polled polls f = count_by (λ q. f == q.channel) polls

-- the clocks that an element waits that was polled for on channel f; 0 where it was on another channel
abbrev pub waiting_at : ℕ → Polled → ℕ
waiting_at f q = if q.channel == f then clocks_waiting q else 0

-- the clocks that all elements polled for on channel f wait
abbrev pub clocks_waited : List Polled → ℕ → ℕ
clocks_waited polls f = sum_by (waiting_at f) polls

-- the poll is on a channel of the design, and its query comes after the push
pub record IsPollOf (design : Design) (q : Polled) : Type 0 where
  pub inside : q.channel < length design.channels
  pub later : q.pushed < q.found

abbrev pub ArePolledIn : Design → List Polled → Type 0
ArePolledIn design polls = All (IsPollOf design) polls

-- the clocks of the link are in order, and its module and its crossed channel are the design's
pub record IsLinkOf (design : Design) (l : Link) : Type 0 where
  pub order : l.first ≤ l.last
  pub mover : l.module < length design.modules
  pub crossed : IfSome l.crossed (λ a. a.channel < length design.channels)

abbrev pub AreLinksOf : Design → List Link → Type 0
AreLinksOf design links = All (IsLinkOf design) links
