-- Clauses that read arrays at variables have variables alone as indexes.
use Rattle.std.proofs.Common.{◌≡◌, ◌∙◌, List, [], ◌∷◌, map, Bool, true, ◌&&◌, not, refl, sym, ap}
use Rattle.std.specs.List.{All, list_all}
use Rattle.std.proofs.lemmas.Bool.{and_from, and_parts, or_left}
use Rattle.std.proofs.lemmas.List.Elements.{All-weaker}
use Rattle.hp_tree.specs.declared.term.Term.{Term, map-Term, out-Term, out-roll-Term, roll-Term}
use Rattle.hp_tree.specs.declared.term.Term.TheOpen.{Term-F}
use Rattle.hp_tree.specs.declared.problem.Atom.{Atom}
use Rattle.hp_tree.specs.declared.problem.Sort.{Sort}
use Rattle.hp_tree.specs.declared.problem.Sort.TheVariants.{Num, Idx, Ptr}
use Rattle.hp_tree.specs.declared.problem.Var.{Var}
use Rattle.hp_tree.specs.Value.{Word}
use Rattle.hp_index.proofs.Layers.{bare, by_layers}
use Rattle.hp_defs.specs.Names.{NameList}
use Rattle.hp_norm.specs.declared.flat.FlatClause.{FlatClause}
use Rattle.hp_norm.specs.Loads.{places_of}
use Rattle.hp_norm.specs.Opening.{mentions}
use Rattle.hp_norm.specs.Plain.{is_lone_variable, is_variable_in, name_in}
use Rattle.hp_norm.specs.Scopes.{clause_scope}
use Rattle.hp_norm.proofs.Seeing.{by_term_roll}
use Rattle.hp_instance.specs.Plain.{HasPlainIndexes, are_plain_at, arguments_in, has_plain_indexes, is_plain_at, plain_step}
use Rattle.hp_flatten.specs.declared.application.Application.{Application}
use Rattle.hp_flatten.specs.Applications.{applications, atoms_applications, clause_applications}
use Rattle.hp_flatten.proofs.HoldsTerms.{back, front}
use Rattle.hp_index_set.specs.Rules.{is_no_pointer, is_read, is_variable_term, reads_at_variables}
use Rattle.hp_arrays.proofs.Applied.{IsKept, SidesPass, all_pass, applied_terms, atoms_pass}

-- an application at a variable
abbrev Reads : List Var → Application → Type 0
Reads vars a = is_read vars a.args ≡ true

module _ (places : Word → List Sort) (vars : List Var) where
  abbrev plain : Term → Bool
  plain = has_plain_indexes places vars

  rolled : (z : Term-F Term) → plain (roll-Term z) ≡ plain_step places vars (roll-Term z) (map-Term Term Bool plain z)
  rolled z = by_term_roll (plain_step places vars) z

  -- ---- a variable
  abbrev IsLone : Term → Type 0
  IsLone t = is_variable_term vars (out-Term t) ≡ true → plain t ≡ true

  lone_layer : (z : Term-F Term) → is_variable_term vars z ≡ true → plain (roll-Term z) ≡ true
  lone_layer (Term-F.Name word) e = rolled (Term-F.Name word)
  lone_layer (Term-F.Number q) e = absurd (cc)
  lone_layer Term-F.Null e = absurd (cc)
  lone_layer (Term-F.Apply func args) e = absurd (cc)
  lone_layer (Term-F.Add a b) e = absurd (cc)
  lone_layer (Term-F.Sub a b) e = absurd (cc)
  lone_layer (Term-F.Neg a) e = absurd (cc)
  lone_layer (Term-F.Scale q a) e = absurd (cc)

  lone_plain : (t : Term) → IsLone t
  lone_plain t = by_layers IsLone (λ y e. lone_layer (bare IsLone y) (ap (is_variable_term vars) (sym (out-roll-Term (bare IsLone y))) ∙ e)) t

  lone_variable : (z : Term-F Term) → is_variable_term vars z ≡ true → is_variable_in vars (name_in z) ≡ true
  lone_variable (Term-F.Name word) e = e
  lone_variable (Term-F.Number q) e = absurd (cc)
  lone_variable Term-F.Null e = absurd (cc)
  lone_variable (Term-F.Apply func args) e = absurd (cc)
  lone_variable (Term-F.Add a b) e = absurd (cc)
  lone_variable (Term-F.Sub a b) e = absurd (cc)
  lone_variable (Term-F.Neg a) e = absurd (cc)
  lone_variable (Term-F.Scale q a) e = absurd (cc)

  -- ---- one argument, which is a variable
  plain_at : (s : Sort) (t : Term) → is_variable_term vars (out-Term t) ≡ true → is_plain_at vars s t ≡ true
  plain_at Num t e = refl
  plain_at Idx t e = or_left (is_lone_variable vars t) (not (mentions vars t)) (lone_variable (out-Term t) e)
  plain_at Ptr t e = refl

  none_at : (ss : List Sort) → are_plain_at vars ss [] ≡ true
  none_at [] = refl
  none_at (s ∷ ss) = refl

  read_at : (ss : List Sort) (ts : List Term) → is_read vars ts ≡ true → are_plain_at vars ss ts ≡ true
  read_at ss [] e = absurd (cc)
  read_at [] (t ∷ []) e = refl
  read_at (s ∷ ss) (t ∷ []) e = and_from (is_plain_at vars s t) (are_plain_at vars ss []) (plain_at s t e) (none_at ss)
  read_at ss (t ∷ u ∷ ts) e = absurd (cc)

  read_parts : (ts : List Term) → is_read vars ts ≡ true → list_all (λ b. b) (map plain ts) ≡ true
  read_parts [] e = absurd (cc)
  read_parts (t ∷ []) e = and_from (plain t) true (lone_plain t e) refl
  read_parts (t ∷ u ∷ ts) e = absurd (cc)

  -- ---- terms
  kept : IsKept (Reads vars) (λ t. plain t ≡ true)
  kept = record {
    number = λ q. rolled (Term-F.Number q);
    null = rolled Term-F.Null;
    name = λ word. rolled (Term-F.Name word);
    apply = λ func args e.
        rolled (Term-F.Apply func args)
        ∙ and_from (are_plain_at vars (places func) (arguments_in (out-Term (roll-Term (Term-F.Apply func args))))) (list_all (λ b. b) (map plain args))
        (ap (λ (z : Term-F Term). are_plain_at vars (places func) (arguments_in z)) (out-roll-Term (Term-F.Apply func args)) ∙ read_at (places func) args e) (read_parts args e);
    add = λ a b p q. rolled (Term-F.Add a b) ∙ and_from (plain a) (plain b) p q;
    subtract = λ a b p q. rolled (Term-F.Sub a b) ∙ and_from (plain a) (plain b) p q;
    neg = λ a p. rolled (Term-F.Neg a) ∙ p;
    scale = λ q a p. rolled (Term-F.Scale q a) ∙ p;
  }

  term_plain : (t : Term) → All (Reads vars) (applications t) → plain t ≡ true
  term_plain = applied_terms (Reads vars) (λ t. plain t ≡ true) kept

-- both sides of each atom
pub reads_are_plain : (names : NameList) (c : FlatClause) → reads_at_variables names c ≡ true → All (HasPlainIndexes names c) c.guard × All (HasPlainIndexes names c) c.head
reads_are_plain names c e =
    let P = Reads c.vars in
    let reads = (and_parts (list_all (λ (a : Application). is_read c.vars a.args) (clause_applications c)) (list_all (is_no_pointer names c) c.guard && list_all (is_no_pointer names c) c.head) e).0 in
    let all = all_pass (λ (a : Application). is_read c.vars a.args) (clause_applications c) reads in (
      sides c.guard (front P (atoms_applications c.guard) (atoms_applications c.head) all),
      sides c.head (back P (atoms_applications c.guard) (atoms_applications c.head) all),
    )
  where
    at : (t : Term) → All (Reads c.vars) (applications t) → has_plain_indexes (places_of (clause_scope names c.vars)) c.vars t ≡ true
    at = term_plain (places_of (clause_scope names c.vars)) c.vars

    sides : (atoms : List Atom) → All (Reads c.vars) (atoms_applications atoms) → All (HasPlainIndexes names c) atoms
    sides atoms h =
        All-weaker (SidesPass (Reads c.vars)) (HasPlainIndexes names c)
        (λ a s. record { left = at a.left s.left; right = at a.right s.right }) atoms (atoms_pass (Reads c.vars) atoms h)
