-- The item of a plan that comes from each statement of a session, and the statement that an item comes from.
use Rattle.std.specs.Prelude.{ℕ, zero, suc, ◌+◌, ◌==◌, ◌&&◌, Bool, true, false, List, [], ◌∷◌, length, slice_index, Option, None, Some}
use Rattle.std.specs.Prelude.{option_map, option_and_then, unwrap_or}
use Rattle.flow_design.specs.{Statement}
use Rattle.flow_grammar.specs.{channels, modules, blocks, operations}
use Rattle.flow_check.specs.{declared.item.Spot.Spot, declared.item.Item.Item, declared.place.CountsBefore.CountsBefore, First.place_where}
use Rattle.flow_check.specs.declared.item.Spot.TheVariants.{Head, Operation, Terminator}
use Rattle.flow_check.specs.declared.item.Item.TheVariants.{Limits, Channel, InModule}
use Rattle.flow_design.specs.declared.session.Statement.TheVariants as s

-- ---- the item of a statement

-- how many channels and modules come before a statement, how many blocks of its module, and how many operations of its body; the
-- statements before it are given the latest first
abbrev pub counts : List Statement → CountsBefore
counts earlier = record {
  channels = length (channels earlier);
  modules = length (modules earlier);
  blocks = length (blocks earlier);
  operations = operations earlier;
}

-- the counts after one more statement
abbrev pub counts_more : CountsBefore → Statement → CountsBefore
counts_more before (s.Source n w) = record before { channels = before.channels + 1 }
counts_more before (s.Sink n w) = record before { channels = before.channels + 1 }
counts_more before (s.Fifo n w depth delay) = record before { channels = before.channels + 1 }
counts_more before (s.Module n) = record before { modules = before.modules + 1; blocks = 0 }
counts_more before (s.Block n l) = record before { blocks = before.blocks + 1; operations = 0 }
counts_more before (s.Loop n ii l r) = record before { blocks = before.blocks + 1; operations = 0 }
counts_more before (s.At off guard o) = record before { operations = before.operations + 1 }
counts_more before other = before

-- the number of the last of n things, if there is one
abbrev pub last_of : ℕ → Option ℕ
last_of zero = None
last_of (suc n) = Some n

-- a spot of this block of the last module, if there is a module
abbrev pub in_last_module : CountsBefore → ℕ → Spot → Option Item
in_last_module before block spot = option_map (λ m. InModule m (block, spot)) (last_of before.modules)

-- a spot of the last block, if there is one
abbrev pub in_last_block : CountsBefore → Spot → Option Item
in_last_block before spot = option_and_then (λ b. in_last_module before b spot) (last_of before.blocks)

-- the item that comes from a statement, if one does: its number is how many of its sort come before it
abbrev pub item_after : CountsBefore → Statement → Option Item
item_after before (s.Limits c o) = Some Limits
item_after before (s.Source n w) = Some (Channel before.channels)
item_after before (s.Sink n w) = Some (Channel before.channels)
item_after before (s.Fifo n w depth delay) = Some (Channel before.channels)
item_after before (s.Block n l) = in_last_module before before.blocks Head
item_after before (s.Loop n ii l r) = in_last_module before before.blocks Head
item_after before (s.At off guard o) = in_last_block before (Operation before.operations)
item_after before (s.Goto b) = in_last_block before Terminator
item_after before (s.Branch r b c) = in_last_block before Terminator
item_after before s.Stop = in_last_block before Terminator
item_after before other = None

-- the items that come from statements after the statements `earlier`, the latest first
abbrev pub items_after : List Statement → List Statement → List (Option Item)
items_after earlier [] = []
items_after earlier (st ∷ rest) = item_after (counts earlier) st ∷ items_after (st ∷ earlier) rest

-- for each statement of a session the item that comes from it
abbrev pub items_of : List Statement → List (Option Item)
items_of statements = items_after [] statements

-- ---- the place of an item

abbrev pub same_spot : Spot → Spot → Bool
same_spot Head Head = true
same_spot (Operation j) (Operation k) = j == k
same_spot Terminator Terminator = true
same_spot a b = false

abbrev pub same_item : Item → Item → Bool
same_item Limits Limits = true
same_item (Channel f) (Channel g) = f == g
same_item (InModule m (b, a)) (InModule n (c, d)) = (m == n) && ((b == c) && same_spot a d)
same_item i j = false

-- a statement's item, if it has one, is the given one
abbrev pub is_item : Item → Option Item → Bool
is_item i None = false
is_item i (Some j) = same_item i j

-- the place of the first statement that an item comes from, or the number of statements where there is none
abbrev pub item_place : List Statement → Item → ℕ
item_place statements item = unwrap_or (place_where (is_item item) (items_of statements)) (length statements)

-- the line of the statement that an item comes from
abbrev pub line_of : List Statement → List ℕ → Item → ℕ
line_of statements lines item = slice_index lines (item_place statements item)
