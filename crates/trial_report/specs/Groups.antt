-- Inner: How the cases of a group are counted.
use Rattle.std.specs.Prelude.{◌+◌, ◌%◌, ◌^◌, Bool, if◌then◌else◌}
use Rattle.trial_report.specs.declared.Group.{Group}

-- one case more, which differs if it is not right
abbrev pub with_case : Group → Bool → Group
with_case group right = record { cases = (group.cases + 1) % 2 ^ 32; differ = (if right then group.differ else (group.differ + 1) % 2 ^ 32) }
