-- Definitions of functions that are declared.
use Rattle.std.specs.Prelude.{◌<◌, length}
use Rattle.std.specs.List.{All}
use Rattle.hp_lit.specs.declared.line.Body.{Body}
use Rattle.hp_lit.specs.declared.line.Body.TheVariants.{Apply, Sum}
use Rattle.hp_lit.specs.declared.line.Def.{Def}
use Rattle.hp_defs.specs.Names.{NameList}

abbrev pub BodyIsNamed : NameList → Body → Type 0
BodyIsNamed names (Apply func args) = func < length names.signatures
BodyIsNamed names (Sum lin) = Unit {0}

abbrev pub DefIsNamed : NameList → Def → Type 0
DefIsNamed names def = BodyIsNamed names def.body

abbrev pub AreNamed : NameList → Type 0
AreNamed names = All (DefIsNamed names) names.definitions
