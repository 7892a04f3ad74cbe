-- The limits at each scale.
use Rattle.flow_design.specs.{declared.limits.Limits.Limits, declared.limits.Scale.Scale}
use Rattle.flow_design.specs.declared.limits.Scale.TheVariants.{Standard, Large}
use Rattle.flow_design.specs.declared.limits.TheConstants.{STANDARD, LARGE}

abbrev pub limits_at : Scale → Limits
limits_at Standard = STANDARD
limits_at Large = LARGE
