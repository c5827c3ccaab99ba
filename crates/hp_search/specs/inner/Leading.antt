-- What a verdict on values shows.
use Rattle.std.specs.Prelude.{◌≡◌, Bool, false, Option, Some, None}
use Rattle.hp_lit.specs.declared.valuation.Valuation.{Valuation}
use Rattle.hp_search.specs.declared.looking.Seen.{Seen}
use Rattle.hp_search.specs.declared.looking.Seen.TheVariants.{Model, Split, Leaf}
use Rattle.hp_search.specs.declared.truth.Verdict.{Verdict}
use Rattle.hp_search.specs.declared.truth.Verdict.TheVariants as verdict

-- a line that is false is split, and values that leave none false are a model where no chain is asked for
abbrev pub IsSeenBy : Verdict → Valuation → Bool → Option Seen → Type 0
IsSeenBy given v exact None = Unit {0}
IsSeenBy given v exact (Some (Split n)) = given ≡ verdict.False n
IsSeenBy given v exact (Some (Model w chain)) = (given ≡ verdict.AllTrue) × (w ≡ v) × (chain ≡ None) × (exact ≡ false)
IsSeenBy given v exact (Some (Leaf proof)) = ⊥
