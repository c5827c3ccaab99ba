-- The definitions of applications: where they stand, what they are worth, and what stays while they are made.
use Rattle.std.proofs.Common.{◌≡◌, ◌∙◌, ◌++◌, ◌⊎◌, ℕ, List, [], Option, Some, None, Ok, slice_get, refl, sym, ap, subst, inl, inr, append-nil}
use Rattle.std.specs.List.{All}
use Rattle.std.proofs.lemmas.List.Elements.{All-nil}
use Rattle.hp_lit.specs.declared.literal.Name.{Name}
use Rattle.hp_lit.specs.declared.line.Arg.{Arg}
use Rattle.hp_lit.specs.declared.line.Body.{Body}
use Rattle.hp_lit.specs.declared.line.Body.TheVariants.{Apply}
use Rattle.hp_lit.specs.declared.line.Line.{Line}
use Rattle.hp_lit.specs.Truth.{name_value}
use Rattle.hp_defs.specs.declared.names.Ground.{Ground}
use Rattle.hp_defs.specs.declared.names.Signature.{Signature}
use Rattle.hp_defs.specs.Fit.{BodyFits}
use Rattle.hp_defs.specs.Made.{IsMade}
use Rattle.hp_defs.specs.Fit.{IsFitNames}
use Rattle.hp_defs.specs.Names.{definition_name, next, result_sort}
use Rattle.hp_defs.specs.Same.{place}
use Rattle.hp_base.specs.Defining.{definition_of, found_or_made}
use Rattle.hp_base.specs.Laws.{DefinitionsBegin, DefinitionsFit, DefinitionsKeepFit, DefinitionsKeepLines, DefinitionsKeepMade, DefinitionsKeepSums, DefinitionsSay, DefinitionsStand, HasSums, IsDefined, IsFitLine}
use Rattle.hp_base.specs.Values.{body_value}
use Rattle.hp_base.proofs.Growing.{definition_grows}
use Rattle.hp_base.proofs.ArgsSteps.{gave}
use Rattle.hp_base.proofs.ArgsDefined.{IsNew, IsOld, IsSumLined, defined_sort, defined_stays, found_is_old, lines_fit, made_there, new_defined, new_fits, new_made, new_sums, old_defined}

abbrev Outcome : Body → Ground → Ground → Name → Type 0
Outcome body before after name = IsOld body before after name ⊎ IsNew body before after name []

definition_outcome : (func : ℕ) (args : List Arg) (name : Name) (before after : Ground) → definition_of func args before ≡ Ok (name, after) → Outcome (Apply func args) before after name
definition_outcome func args name before after = by (place (Apply func args) before.names.definitions) refl
  where
    by : (p : Option ℕ) → place (Apply func args) before.names.definitions ≡ p → found_or_made (Apply func args) p before ≡ Ok (name, after) → Outcome (Apply func args) before after name
    by None f e =
        let m = made_there (Apply func args) name before after e in
        inr (record {
          room = m.room;
          fresh = f;
          has_name = m.has_name;
          names = ap (λ (g : Ground). g.names) (sym m.same);
          lines = ap (λ (g : Ground). g.lines) (sym m.same) ∙ sym (append-nil before.lines);
        })
    by (Some k) f e = let g = gave (definition_name before.names k) name before after e in inl (found_is_old (Apply func args) k name before after f g.value g.ground)

pub definitions_begin : DefinitionsBegin
definitions_begin func args name before after e = definition_grows func args before after name e

definition_defined : (func : ℕ) (args : List Arg) (name : Name) (before after : Ground) → definition_of func args before ≡ Ok (name, after) → IsDefined after.names name (Apply func args)
definition_defined func args name before after e = elim (definition_outcome func args name before after e) [
  | inl o ↦ old_defined (Apply func args) before after name o
  | inr n ↦ new_defined (Apply func args) before after name [] n
]

pub definitions_stand : DefinitionsStand
definitions_stand func args name before after end e b = defined_stays after end name (Apply func args) b (definition_defined func args name before after e)

pub definitions_say : DefinitionsSay
definitions_say func args name before after end v functions e b extends =
    let d = definitions_stand func args name before after end e b in
    ap (λ (n : Name). name_value v n.0) d.has_name ∙ extends d.place d.definition d.there ∙ ap (λ (x : Body). body_value functions end.names v x) d.has_body

pub definitions_fit : DefinitionsFit
definitions_fit func args name before after signature e known fits fit =
    let b = definitions_begin func args name before after e in
    let body_fits : BodyFits before.names (Apply func args) = record { known = signature; found = known; args_fit = fits } in
    let all : IsFitNames after.names = elim (definition_outcome func args name before after e) [
      | inl o ↦ subst (λ (g : Ground). IsFitNames g.names) o.same fit
      | inr n ↦ new_fits (Apply func args) before after name [] n body_fits fit
    ] in
    let there = ap (λ (ss : List Signature). slice_get ss func) b.signatures ∙ known in
    (defined_sort after.names name (Apply func args) (definition_defined func args name before after e) ∙ ap (λ (o : Option Signature). Some (result_sort o)) there, all)

no_sum : (func : ℕ) (args : List Arg) (name : Name) (lines : List Line) → IsSumLined (Apply func args) name lines
no_sum func args name lines lin e = absurd (cc)

pub definitions_keep_sums : DefinitionsKeepSums
definitions_keep_sums func args name before after e has = elim (definition_outcome func args name before after e) [
  | inl o ↦ subst HasSums o.same has
  | inr n ↦ new_sums (Apply func args) before after name [] n (no_sum func args (next before.names) (before.lines ++ [])) has
]

pub definitions_keep_fit : DefinitionsKeepFit
definitions_keep_fit func args name before after e all = elim (definition_outcome func args name before after e) [
  | inl o ↦ subst (λ (g : Ground). All (IsFitLine g.names) g.lines) o.same all
  | inr n ↦ lines_fit before after [] (definitions_begin func args name before after e) n.lines all (All-nil (IsFitLine after.names))
]

pub definitions_keep_lines : DefinitionsKeepLines
definitions_keep_lines func args name before after e = elim (definition_outcome func args name before after e) [
  | inl o ↦ ap (λ (g : Ground). g.lines) (sym o.same)
  | inr n ↦ n.lines ∙ append-nil before.lines
]

pub definitions_keep_made : DefinitionsKeepMade
definitions_keep_made func args name before after e small is = elim (definition_outcome func args name before after e) [
  | inl o ↦ subst (λ (g : Ground). IsMade g.names) o.same is
  | inr n ↦ new_made (Apply func args) before after name [] n small is
]
