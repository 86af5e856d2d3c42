-- Inner: The days that the brute force counts on, as the product is lent them.
use Rattle.window.specs.declared.Kind.{Kind}
use Rattle.window.specs.declared.Kind.TheVariants.{Round, Run}
use Rattle.brute_force.specs.declared.windows.Kind.{Kind as Counted}
use Rattle.brute_force.specs.declared.windows.Kind.TheVariants as counted

-- the kind of the same name
abbrev pub kind_of : Counted → Kind
kind_of counted.Round = Round
kind_of counted.Run = Run
