-- The line of a clause that breaks a rule of the profile.
use Rattle.std.specs.Prelude.{ℕ, List, [], ◌++◌, codes, nat_eq, if◌then◌else◌}
use Rattle.std.specs.List.{join_by}
use Rattle.std.specs.Fmt.{decimal}
use Rattle.hp_ast.specs.Printing.{frac_text, line}
use Rattle.hp_pairs.specs.declared.answer.PlaceValue.{PlaceValue}
use Rattle.hp_pairs.specs.declared.answer.Outside.{Outside}

-- a word and its value
abbrev pub place_text : PlaceValue → List ℕ
place_text place = place.name ++ codes " = " ++ frac_text place.value

-- the clause that the rule is broken with, and the point
abbrev pub with_text : ℕ → List PlaceValue → List ℕ
with_text other at = codes " with " ++ decimal other ++ codes " at " ++ join_by place_text (codes ", ") at

-- the clause, counted from 1, and the rule; and for a rule on two clauses, where the number of the other one isn't 0, that one with the point
abbrev pub outside_text : Outside → List ℕ
outside_text o =
    line (codes "outside clause " ++ decimal o.clause ++ codes " rule " ++ decimal o.rule ++ (if nat_eq o.other 0 then [] else with_text o.other o.at))
