-- The one line that says why a text is refused.
use Rattle.std.specs.Prelude.{ℕ, List, [], ◌∷◌, ◌++◌, codes}
use Rattle.std.specs.Fmt.{decimal}
use Rattle.hp_tree.specs.declared.limit.Limit.{Limit}
use Rattle.hp_tree.specs.declared.limit.Which.{Which}
use Rattle.hp_tree.specs.declared.limit.Which.TheVariants.{Input, Bytes, Clauses, Variables, Arguments, Names, Lines, Coefficient}
use Rattle.hp_grammar.specs.declared.fault.ReadErr.{ReadErr}
use Rattle.hp_grammar.specs.declared.fault.ReadErr.TheVariants as reading
use Rattle.hp_sorts.specs.declared.fault.SortErr.{SortErr}
use Rattle.hp_sorts.specs.declared.fault.SortErr.TheVariants as sorting

abbrev pub line : List ℕ → List ℕ
line text = text ++ (10 ∷ [])

-- how the program is used
abbrev pub usage_text : List ℕ
usage_text = line (codes "usage: hpilot solve [--nodes N], check, classify, instances, print, bench A B")

abbrev pub not_built_text : List ℕ
not_built_text = line (codes "not built")

-- the place of what is wrongly spelled, in bytes from 0; want of memory has no line
abbrev pub spelling_text : ReadErr → List ℕ
spelling_text (reading.Syntax offset) = line (codes "syntax " ++ decimal offset)
spelling_text (reading.LongNumeral offset) = line (codes "long-numeral " ++ decimal offset)
spelling_text (reading.Deep offset) = line (codes "deep " ++ decimal offset)
spelling_text reading.Memory = []

-- the item that breaks a rule, counted from 1, and the rule; want of memory has no line
abbrev pub sort_text : SortErr → List ℕ
sort_text (sorting.Twice item) = line (codes "sort " ++ decimal item ++ codes " twice")
sort_text (sorting.Level item) = line (codes "sort " ++ decimal item ++ codes " level")
sort_text (sorting.Unknown item) = line (codes "sort " ++ decimal item ++ codes " unknown")
sort_text (sorting.Arity item) = line (codes "sort " ++ decimal item ++ codes " arity")
sort_text (sorting.Mismatch item) = line (codes "sort " ++ decimal item ++ codes " mismatch")
sort_text sorting.Memory = []

-- what there is too much of, and how many there may be; for a number that is too large the item that it stands in
abbrev pub limit_text : Limit → List ℕ
limit_text l = limit_of l.which l.most l.item
  where
    limit_of : Which → ℕ → ℕ → List ℕ
    limit_of Input most item = line (codes "limit input " ++ decimal most)
    limit_of Bytes most item = line (codes "limit bytes " ++ decimal most)
    limit_of Clauses most item = line (codes "limit clauses " ++ decimal most)
    limit_of Variables most item = line (codes "limit variables " ++ decimal most)
    limit_of Arguments most item = line (codes "limit arguments " ++ decimal most)
    limit_of Names most item = line (codes "limit names " ++ decimal most)
    limit_of Lines most item = line (codes "limit lines " ++ decimal most)
    limit_of Coefficient most item = line (codes "limit coefficient item " ++ decimal item)
