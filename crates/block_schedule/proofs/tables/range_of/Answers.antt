use Rattle.block_schedule.proofs.Ages.{points_rise}
use Rattle.block_schedule.proofs.tables.range_of.Goals as goal

pub returns : goal.returns
returns c = record {
  rises = points_rise c.args.slots.now c.args.first c.args.end c.first_from.result c.first_from-2.result c.requires.rises
      c.first_from.ensures.bound c.first_from.ensures.below c.first_from-2.ensures.rest;
  to_inside = c.first_from-2.ensures.bound;
  below = c.first_from.ensures.below;
  not_below = c.first_from.ensures.rest;
  before_end = c.first_from-2.ensures.below;
  at_end = c.first_from-2.ensures.rest;
}
