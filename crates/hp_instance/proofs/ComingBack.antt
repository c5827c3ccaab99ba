-- The term of an argument is that argument again, where it stands at a place of its sort.
use Rattle.std.proofs.Common.{◌≡◌, ℕ, List, ◌&&◌, ℤ, pos, ◌+ℤ◌, Option, Some, None, Ok, slice_get, refl, sym, ap, ◌∙◌, arith}
use Rattle.std.specs.Prelude.{if◌then◌else◌}
use Rattle.std.proofs.lemmas.Int.{ints}
use Rattle.hp_math.specs.Rational.{ℚ, whole}
use Rattle.hp_tree.proofs.Compares.{eq_ℚ-from}
use Rattle.hp_math.proofs.Parts.{whole-parts}
use Rattle.hp_tree.specs.declared.term.Term.{Name, Number, Null, fold-roll-Term}
use Rattle.hp_tree.specs.declared.term.Term.TheOpen.{Term-F}
use Rattle.hp_tree.specs.declared.term.Term.TheVariants.{rolls-Name, rolls-Null, rolls-Number}
use Rattle.hp_tree.specs.declared.problem.Sort.{Sort}
use Rattle.hp_tree.specs.declared.problem.Sort.TheVariants.{Num, Idx, Ptr}
use Rattle.hp_lit.specs.declared.literal.Name as literal
use Rattle.hp_lit.specs.declared.line.Arg.{Arg}
use Rattle.hp_lit.specs.declared.line.Arg.TheVariants as arg
use Rattle.hp_lit.specs.declared.line.Lin.{Lin}
use Rattle.hp_lit.specs.Words.{number}
use Rattle.hp_linear.specs.Lins.{lin_of, lin_step, named_lin, number_lin, word_lin}
use Rattle.hp_linear.specs.Steps.{Refusable}
use Rattle.hp_index.specs.declared.form.IndexForm.{IndexForm}
use Rattle.hp_index.specs.Forms.{above, index_of, index_step, plus_form}
use Rattle.hp_index.specs.Pointers.{pointer_of, pointer_step}
use Rattle.hp_index.proofs.Layers.{index-Add}
use Rattle.hp_defs.specs.declared.names.Ground.{Ground}
use Rattle.hp_defs.specs.Names.{sorts, words}
use Rattle.hp_defs.specs.Fit.{ArgFits}
use Rattle.hp_defs.specs.Made.{IsMade}
use Rattle.hp_defs.proofs.Distinct.{words_stand_for_names}
use Rattle.hp_base.specs.Making.{◌then◌, computed}
use Rattle.hp_base.specs.Arguments.{argument_of, form_argument, lin_argument, named_sum, pointer_argument}
use Rattle.hp_instance.specs.Laws.{ArgumentsComeBack}
use Rattle.hp_instance.specs.Replacing.{arg_term, name_word}
use Rattle.hp_instance.proofs.ArgTerms.{word_there}

module _ (item : ℕ) (g : Ground) (made : IsMade g.names) where
  abbrev ws : List (List ℕ)
  ws = words g.names

  -- the word of a name stands for it
  stands : (name : literal.Name) (sort : Sort) → slice_get (sorts g.names) name.0 ≡ Some sort → number ws (name_word g.names name) ≡ Some name
  stands name sort e = words_stand_for_names g.names name.0 (name_word g.names name) made (word_there g.names name sort e)

  -- ---- of sort num
  number_form : (q : ℚ) → lin_of ws (Number q) ≡ Ok (number_lin q)
  number_form q = ap (lin_of ws) (sym (rolls-Number q)) ∙ fold-roll-Term (Refusable Lin) (lin_step ws) (Term-F.Number q)

  name_form : (name : literal.Name) (sort : Sort) → slice_get (sorts g.names) name.0 ≡ Some sort → lin_of ws (Name (name_word g.names name)) ≡ Ok (named_lin name)
  name_form name sort e =
      ap (lin_of ws) (sym (rolls-Name (name_word g.names name))) ∙ fold-roll-Term (Refusable Lin) (lin_step ws) (Term-F.Name (name_word g.names name))
      ∙ ap (λ (o : Option literal.Name). Ok (word_lin o)) (stands name sort e)

  -- a name alone is that name
  alone : (name : literal.Name) → lin_argument item (named_lin name) g ≡ Ok (arg.Named name, g)
  alone name =
      let one = eq_ℚ-from (whole (pos 1)) (whole (pos 1)) refl in
      let none = eq_ℚ-from (whole (pos 0)) (whole (pos 0)) refl in
      (λ i. (if one i && none i then (λ h. Ok (arg.Named name, h)) else named_sum item (named_lin name)) g)

  -- ---- of sort idx
  offset_form : (k : ℤ) → index_of ws (Number (whole k)) ≡ above None k
  offset_form k = ap (index_of ws) (sym (rolls-Number (whole k))) ∙ fold-roll-Term IndexForm (index_step ws) (Term-F.Number (whole k)) ∙ ap (above None) (whole-parts k).0

  base_form : (name : literal.Name) (sort : Sort) → slice_get (sorts g.names) name.0 ≡ Some sort → index_of ws (Name (name_word g.names name)) ≡ above (Some name) (pos 0)
  base_form name sort e =
      ap (index_of ws) (sym (rolls-Name (name_word g.names name))) ∙ fold-roll-Term IndexForm (index_step ws) (Term-F.Name (name_word g.names name))
      ∙ ap (λ (o : Option literal.Name). above o (pos 0)) (stands name sort e)

  -- ---- of sort ptr
  pointer_form : (name : literal.Name) (sort : Sort) → slice_get (sorts g.names) name.0 ≡ Some sort → pointer_of ws (Name (name_word g.names name)) ≡ Some name
  pointer_form name sort e =
      ap (pointer_of ws) (sym (rolls-Name (name_word g.names name))) ∙ fold-roll-Term (Option literal.Name) (pointer_step ws) (Term-F.Name (name_word g.names name)) ∙ stands name sort e

  null_form : pointer_of ws Null ≡ None
  null_form = ap (pointer_of ws) (sym rolls-Null) ∙ fold-roll-Term (Option literal.Name) (pointer_step ws) Term-F.Null

  -- ---- of each sort
  comes_back : (sort : Sort) (x : Arg) → ArgFits (sorts g.names) sort x → argument_of item sort (arg_term g.names x) g ≡ Ok (x, g)
  comes_back Num (arg.Number q) h = ap (λ (r : Refusable Lin). computed item r g then lin_argument item) (number_form q)
  comes_back Num (arg.Named name) h = ap (λ (r : Refusable Lin). computed item r g then lin_argument item) (name_form name Num h) ∙ alone name
  comes_back Num (arg.Index base offset) h = absurd h
  comes_back Num arg.Null h = absurd h
  comes_back Idx (arg.Number q) h = absurd h
  comes_back Idx (arg.Named name) h = absurd h
  comes_back Idx (arg.Index None offset) h = ap (λ (f : IndexForm). Ok (form_argument f, g)) (offset_form offset)
  comes_back Idx (arg.Index (Some name) offset) h =
      let sum : pos 0 +ℤ offset ≡ offset = omega (arith, ints) in
      ap (λ (f : IndexForm). Ok (form_argument f, g))
      (index-Add ws (Name (name_word g.names name)) (Number (whole offset)) ∙ (λ i. plus_form (base_form name Idx h i) (offset_form offset i)) ∙ ap (above (Some name)) sum)
  comes_back Idx arg.Null h = absurd h
  comes_back Ptr (arg.Number q) h = absurd h
  comes_back Ptr (arg.Named name) h = ap (λ (o : Option literal.Name). Ok (pointer_argument o, g)) (pointer_form name Ptr h)
  comes_back Ptr (arg.Index base offset) h = absurd h
  comes_back Ptr arg.Null h = ap (λ (o : Option literal.Name). Ok (pointer_argument o, g)) null_form

pub arguments_come_back : ArgumentsComeBack
arguments_come_back item sort x g made h = comes_back item g made sort x h
