use Rattle.depth_order.proofs.Plans.{depths_fit}
use Rattle.depth_advice.proofs.Depths.{advised_depths, deep_blocks_never, deep_never_full}
use Rattle.depth_advice.proofs.laws.advised_depths_never_block.Goals as goal

pub returns-clause-depths : goal.returns-clause-depths
returns-clause-depths c = advised_depths

pub returns-clause-same : goal.returns-clause-same
returns-clause-same c = deep_blocks_never

pub returns-clause-fits : goal.returns-clause-fits
returns-clause-fits c = depths_fit

pub returns-clause-never_full : goal.returns-clause-never_full
returns-clause-never_full c = deep_never_full
