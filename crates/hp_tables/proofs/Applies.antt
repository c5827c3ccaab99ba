-- A clause of monotone shape applies its function alone.
use Rattle.std.proofs.Common.{◌≡◌, ◌&&◌, ◌||◌, ◌++◌, ℕ, List, [], ◌∷◌, Bool, true, false, IsTrue, Option, Some, refl, sym, ap, subst, ◌∙◌}
use Rattle.std.specs.Prelude.{if◌then◌else◌, slice_get}
use Rattle.std.specs.List.{All, list_any}
use Rattle.std.specs.Str.{bytes_eq}
use Rattle.std.proofs.lemmas.Bool.{and_from}
use Rattle.std.proofs.lemmas.List.Elements.{All-cons, All-nil}
use Rattle.hp_tree.specs.declared.term.Term.{Term, Name, Apply, fold-roll-Term}
use Rattle.hp_tree.specs.declared.term.Term.TheOpen.{Term-F}
use Rattle.hp_tree.specs.declared.term.Term.TheVariants.{rolls-Apply, rolls-Name}
use Rattle.hp_tree.specs.Universal.{Universal}
use Rattle.hp_tree.specs.Value.{Word}
use Rattle.hp_names.proofs.Texts.{text_same}
use Rattle.hp_defs.specs.declared.names.Signature.{Signature}
use Rattle.hp_defs.specs.Names.{NameList}
use Rattle.hp_local.specs.Applied.{applies_only, applies_step, atom_applies, clause_applies}
use Rattle.hp_local.specs.Monotone.{Shape, at_most, lower_term, shape_clause, shape_head, upper_term}
use Rattle.hp_norm.specs.declared.flat.FlatClause.{FlatClause}
use Rattle.hp_norm.specs.Flat.{universal_of}
use Rattle.hp_class.specs.Frame.{is_function, signature_word}
use Rattle.hp_shapes.specs.declared.shape.Form.{Form}
use Rattle.hp_tables.specs.Classes.{IsMonotone}
use Rattle.hp_tables.proofs.Written.{written}

module _ (test : Word → Bool) where
  abbrev Passes : Term → Type 0
  Passes t = applies_only test t ≡ true

  name_passes : (word : Word) → Passes (Name word)
  name_passes word = ap (applies_only test) (sym (rolls-Name word)) ∙ fold-roll-Term Bool (applies_step test) (Term-F.Name word)

  picked : (b : Bool) (s t : Term) → Passes s → Passes t → Passes (if b then s else t)
  picked true s t h k = h
  picked false s t h k = k

  turned : (b : Bool) (s t : Term) → Passes s → Passes t → atom_applies test (at_most b s t) ≡ true
  turned false s t h k = and_from (applies_only test s) (applies_only test t) h k
  turned true s t h k = and_from (applies_only test t) (applies_only test s) k h

  one : (b : Bool) → b ≡ true → (b && true) ≡ true
  one b h = and_from b true h refl

  module _ (func : Word) (own : test func ≡ true) where
    value_passes : (t : Term) → Passes t → Passes (Apply func (t ∷ []))
    value_passes t h =
        ap (applies_only test) (sym (rolls-Apply func (t ∷ []))) ∙ fold-roll-Term Bool (applies_step test) (Term-F.Apply func (t ∷ []))
        ∙ and_from (test func) (applies_only test t && true) own (one (applies_only test t) h)

    shape_passes : (shape : Shape) → clause_applies test (shape_clause func shape) ≡ true
    shape_passes shape =
        let low = picked shape.first_lower (Name shape.first) (Name shape.second) (name_passes shape.first) (name_passes shape.second) in
        let high = picked shape.first_lower (Name shape.second) (Name shape.first) (name_passes shape.second) (name_passes shape.first) in
        let lower = Apply func (lower_term shape ∷ []) in
        let upper = Apply func (upper_term shape ∷ []) in
        let at_lower = value_passes (lower_term shape) low in
        let at_upper = value_passes (upper_term shape) high in
        let guard = turned shape.guard_turned (lower_term shape) (upper_term shape) low high in
        let head = turned shape.head_turned (if shape.rising then lower else upper) (if shape.rising then upper else lower) (picked shape.rising lower upper at_lower at_upper) (picked shape.rising upper lower at_upper at_lower) in
        and_from (atom_applies test (at_most shape.guard_turned (lower_term shape) (upper_term shape)) && true) (atom_applies test (shape_head func shape) && true)
        (one (atom_applies test (at_most shape.guard_turned (lower_term shape) (upper_term shape))) guard) (one (atom_applies test (shape_head func shape)) head)

-- the clause applies functions among these
abbrev pub AppliesOnly : NameList → List ℕ → FlatClause → Type 0
AppliesOnly names funcs k = IsTrue (clause_applies (is_function names funcs) (universal_of k))

pub nothing_applies : (names : NameList) (funcs : List ℕ) → All (AppliesOnly names funcs) []
nothing_applies names funcs = All-nil (AppliesOnly names funcs)

own_word : (names : NameList) (func : ℕ) (s : Signature) → slice_get names.signatures func ≡ Some s → is_function names (func ∷ []) s.name ≡ true
own_word names func s known =
    ap (λ (o : Option Signature). list_any (λ (f : Word). bytes_eq f s.name) (signature_word o ++ [])) known ∙ ap (λ b. b || false) (text_same s.name)

pub monotone_applies : (names : NameList) (func : ℕ) (word : Word) (clause : FlatClause) (form : Form) (funcs : List ℕ) → IsMonotone names func word clause form funcs
    → All (AppliesOnly names (funcs ++ [])) (clause ∷ [])
monotone_applies names func word clause form funcs lent =
    let w = written names func word clause form funcs lent in
    let s = lent.signature in
    let test = λ (fs : List ℕ). is_function names (fs ++ []) in
    let own : test funcs s.name ≡ true = subst (λ (fs : List ℕ). test fs s.name ≡ true) (sym lent.own) (own_word names func s lent.known) in
    let said = subst (λ (u : Universal). clause_applies (test funcs) u ≡ true) (sym w.clause_is) (shape_passes (test funcs) s.name own w.shape) in
    All-cons (AppliesOnly names (funcs ++ [])) clause [] said (All-nil (AppliesOnly names (funcs ++ [])))
