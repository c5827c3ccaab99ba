-- Index terms over words, and the word plus a whole number that each of them is.
use Rattle.std.specs.Prelude.{List, ℤ, pos, neg_ℤ, ◌+ℤ◌, ◌-ℤ◌, Option, None}
use Rattle.std.specs.Option.{option_or}
use Rattle.hp_tree.specs.declared.term.Term.{Term, fold-Term}
use Rattle.hp_tree.specs.declared.term.Term.TheOpen.{Term-F}
use Rattle.hp_tree.specs.Value.{Word}
use Rattle.hp_lit.specs.declared.literal.Name.{Name}
use Rattle.hp_lit.specs.Words.{number}
use Rattle.hp_index.specs.declared.form.IndexForm.{IndexForm}

-- a name, or nothing, plus a whole number
abbrev pub above : Option Name → ℤ → IndexForm
above base offset = record { base = base; offset = offset }

-- the sum of two forms, of which one is a number alone
abbrev pub plus_form : IndexForm → IndexForm → IndexForm
plus_form a b = above (option_or a.base b.base) (a.offset +ℤ b.offset)

-- a form without a number alone
abbrev pub minus_form : IndexForm → IndexForm → IndexForm
minus_form a b = above a.base (a.offset -ℤ b.offset)

-- the negation of a number alone
abbrev pub neg_form : IndexForm → IndexForm
neg_form a = above None (neg_ℤ a.offset)

-- one layer of an index term; a word that is none of these is nothing, and so are null, applications and multiples
abbrev pub index_step : List Word → Term-F IndexForm → IndexForm
index_step words (Term-F.Number q) = above None q.num
index_step words Term-F.Null = above None (pos 0)
index_step words (Term-F.Name name) = above (number words name) (pos 0)
index_step words (Term-F.Apply func args) = above None (pos 0)
index_step words (Term-F.Add a b) = plus_form a b
index_step words (Term-F.Sub a b) = minus_form a b
index_step words (Term-F.Neg a) = neg_form a
index_step words (Term-F.Scale q a) = above None (pos 0)

-- the form of an index term over these words
abbrev pub index_of : List Word → Term → IndexForm
index_of words = fold-Term IndexForm (index_step words)
