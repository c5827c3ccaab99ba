-- Functions through the points of all definitions, and clauses that are true in them.
use Rattle.std.proofs.Common.{◌≡◌, ◌∙◌, ◌||◌, ◌&&◌, ℕ, zero, suc, ◌+◌, Bool, true, false, cond, not, IsTrue, List, [], ◌∷◌, ◌++◌, length, Option, Some, None, refl, sym, ap, subst}
use Rattle.std.specs.Prelude.{slice_get}
use Rattle.std.specs.List.{All, Contains, list_all}
use Rattle.std.specs.Str.{bytes_eq}
use Rattle.std.proofs.lemmas.List.Elements.{All-contains, Contains-append_right}
use Rattle.hp_math.specs.Rational.{ℚ}
use Rattle.hp_names.specs.Names.{AreDistinct}
use Rattle.hp_names.proofs.Distinct.{absent}
use Rattle.hp_names.proofs.Texts.{same_text, text_same}
use Rattle.hp_tree.specs.declared.problem.Atom.{Atom}
use Rattle.hp_tree.specs.Universal.{Universal, assign, clause_at}
use Rattle.hp_tree.specs.Value.{Word, Environment, Functions, one_true}
use Rattle.hp_lit.specs.declared.literal.Name.{Name}
use Rattle.hp_lit.specs.declared.line.Arg.{Arg}
use Rattle.hp_lit.specs.declared.line.Body.{Body}
use Rattle.hp_lit.specs.declared.line.Body.TheVariants.{Apply, Sum}
use Rattle.hp_lit.specs.declared.line.Def.{Def}
use Rattle.hp_lit.specs.Truth.{Values, name_value}
use Rattle.hp_lit.specs.Words.{Agrees}
use Rattle.hp_local.specs.Applied.{atom_applies, clause_applies}
use Rattle.hp_local.specs.Frame.{AreCongruent, Fact, HasPoint, IsTrueWithPoints, same_values, with_points}
use Rattle.hp_local.proofs.Applied.{all_local, atom_local}
use Rattle.hp_local.proofs.Lists.{All-by, contains_first, contains_later}
use Rattle.hp_local.proofs.Points.{points_are_kept, same_values-Decides}
use Rattle.hp_local.proofs.Tests.{both}
use Rattle.hp_defs.specs.declared.names.Signature.{Signature}
use Rattle.hp_defs.specs.Fit.{BodyFits, IsFitNames}
use Rattle.hp_defs.specs.Made.{IsMade}
use Rattle.hp_defs.specs.Names.{NameList, first_names, words}
use Rattle.hp_defs.proofs.Distinct.{words_are_distinct}
use Rattle.hp_base.specs.Congruence.{Point}
use Rattle.hp_base.specs.Values.{Extends, SumsHold, arg_values, body_value, signature_function}
use Rattle.hp_norm.specs.Sound.{AreValues}
use Rattle.hp_instance.specs.declared.tuple.Tuple.{Tuple}
use Rattle.hp_norm.specs.Flat.{universal_of}
use Rattle.hp_class.specs.Frame.{body_facts, definition_facts, environment, fact_of, frame_at, is_function, signature_facts}
use Rattle.hp_class.specs.Group.{Planned}
use Rattle.hp_class.specs.Law.{PlannedIsTrue}
use Rattle.hp_class.specs.Laws.{ClausesHoldWithPoints, PlannedHolds}

-- ---- words
-- distinct words have the values at their places
pub words_agree : (ws : List Word) (w : Values) → AreDistinct ws → Agrees ws w (environment ws w)
words_agree [] w once k word e = absurd (cc)
words_agree (a ∷ ws) [] once k word e = refl
words_agree (a ∷ ws) (x ∷ xs) once zero word e =
    let same : a ≡ word = ap (λ (o : Option Word). elim o [ None ↦ a | Some b ↦ b ]) e in
    ap (λ b. cond b x (environment ws xs word)) (subst (λ (b : Word). bytes_eq a b ≡ true) same (text_same a))
words_agree (a ∷ ws) (x ∷ xs) once (suc k) word e = ap (λ b. cond b x (environment ws xs word)) (absent a ws k word once.0 e) ∙ words_agree ws xs once.1 k word e

-- ---- clauses need the functions that they apply alone
module _ (f g : Functions) (test : Word → Bool) (agree : (word : Word) → IsTrue (test word) → (args : List ℚ) → f word args ≡ g word args) where
  one_local : (names : Environment) (atoms : List Atom) → IsTrue (list_all (atom_applies test) atoms) → one_true names f atoms ≡ one_true names g atoms
  one_local names [] h = refl
  one_local names (a ∷ atoms) h = let k = both _ _ h in λ i. atom_local f g test agree names a k.0 i || one_local names atoms k.1 i

  clause_local : (names : Environment) (u : Universal) → IsTrue (clause_applies test u) → (xs : List ℚ) → clause_at names f u xs ≡ clause_at names g u xs
  clause_local names u h xs =
      let k = both _ _ h in
      λ i. not (all_local f g test agree (assign u.vars xs names) u.guard k.0 i) || one_local (assign u.vars xs names) u.head k.1 i

-- ---- functions through points
-- functions that have the points of a function have its values
same_through : (f : Functions) (test : Word → Bool) (facts : List Fact) → ((k : Fact) → Contains facts k → IsTrue (test k.func) → HasPoint f k)
    → (word : Word) → IsTrue (test word) → (args : List ℚ) → with_points f facts word args ≡ f word args
same_through f test [] has word t args = refl
same_through f test (k ∷ facts) has word t args = by (same_through f test facts (λ l m. has l (contains_later k facts l m)) word t args) (bytes_eq k.func word && same_values args k.args) refl
  where
    by : with_points f facts word args ≡ f word args → (b : Bool) → (bytes_eq k.func word && same_values args k.args) ≡ b → cond b k.value (with_points f facts word args) ≡ f word args
    by rest false e = rest
    by rest true e =
        let h = both (bytes_eq k.func word) (same_values args k.args) e in
        let func : k.func ≡ word = same_text k.func word h.0 in
        let at : args ≡ k.args = (same_values-Decides args k.args).0 h.1 in
        let point : f k.func k.args ≡ k.value = has k (contains_first k facts) (subst (λ (w : Word). IsTrue (test w)) (sym func) t) in
        sym point ∙ (λ i. f (func i) (sym at i))

-- the point of a definition by an application
fact_there : (ss : List Signature) (v : Values) (ds : List Def) (k : ℕ) (d : Def) (func : ℕ) (args : List Arg) (s : Signature) → slice_get ds k ≡ Some d → d.body ≡ Apply func args
    → slice_get ss func ≡ Some s → Contains (definition_facts ss v ds) (fact_of s.name v (record { name = d.name; args = args }))
fact_there ss v [] k d func args s there body known = absurd (cc)
fact_there ss v (c ∷ ds) zero d func args s there body known =
    let same : c ≡ d = cc in
    let p : Point = record { name = d.name; args = args } in
    let here : definition_facts ss v (d ∷ ds) ≡ fact_of s.name v p ∷ definition_facts ss v ds =
    ap (λ (b : Body). body_facts ss v d b ++ definition_facts ss v ds) body ∙ ap (λ (o : Option Signature). signature_facts v p o ++ definition_facts ss v ds) known in
    subst (λ (c : Def). Contains (definition_facts ss v (c ∷ ds)) (fact_of s.name v p)) (sym same)
    (subst (λ (fs : List Fact). Contains fs (fact_of s.name v p)) (sym here) (contains_first (fact_of s.name v p) (definition_facts ss v ds)))
fact_there ss v (c ∷ ds) (suc k) d func args s there body known =
    Contains-append_right (body_facts ss v c c.body) (definition_facts ss v ds) (fact_of s.name v (record { name = d.name; args = args })) (fact_there ss v ds k d func args s there body known)

module _ (size : ℕ) (names : NameList) (v : Values) (made : IsMade names) (fit : IsFitNames names) (sums : SumsHold names v) (congruent : AreCongruent (frame_at size names v).facts) where
  abbrev facts : List Fact
  facts = definition_facts names.signatures v names.definitions

  abbrev through : Functions → Functions
  through f = with_points f facts

  -- definitions have the values of their bodies in them
  extends_through : (f : Functions) → Extends (through f) names v
  extends_through f k d there = by d.body refl
    where
      by : (b : Body) → d.body ≡ b → name_value v (length names.constants + k) ≡ body_value (through f) names v b
      by (Sum lin) e = sums k d lin there e
      by (Apply func args) e =
          let body : BodyFits (first_names k names) (Apply func args) = subst (λ (b : Body). BodyFits (first_names k names) b) e (fit k d there) in
          let fact = fact_of body.known.name v (record { name = d.name; args = args }) in
          let value = points_are_kept f facts congruent fact (fact_there names.signatures v names.definitions k d func args body.known there e body.found) in
          ap (λ (x : Name). name_value v x.0) (sym (made.named k d there)) ∙ sym value
          ∙ ap (λ (o : Option Signature). signature_function (through f) o (arg_values v args)) (sym body.found)

  -- a clause that is true in them is true in all functions that have the points of those that it applies
  true_with_points : (test : Word → Bool) (u : Universal) (values : List ℚ) → IsTrue (clause_applies test u)
      → ((f : Functions) → clause_at (environment (words names) v) (through f) u values ≡ true) → IsTrueWithPoints (frame_at size names v) test u values
  true_with_points test u values applies says f has =
      subst (λ b. IsTrue b) (clause_local (through f) f test (same_through f test facts has) (environment (words names) v) u applies values) (says f)

pub clauses_hold_with_points : ClausesHoldWithPoints
clauses_hold_with_points own funcs plan before after end size v is later fit have sums congruent lines applies =
    All-by (PlannedIsTrue funcs size end.names v) plan (λ p m.
    All-by (λ (t : Tuple). IsTrueWithPoints (frame_at size end.names v) (is_function end.names funcs) (universal_of p.clause) (arg_values v t.args)) p.tuples (λ t n.
    true_with_points size end.names v later.made fit sums congruent (is_function end.names funcs) (universal_of p.clause) (arg_values v t.args)
    (All-contains (λ (q : Planned). IsTrue (clause_applies (is_function end.names funcs) (universal_of q.clause))) plan p applies m)
    (λ f. All-contains (λ (s : Tuple). clause_at env (in_all f) (universal_of p.clause) (arg_values v s.args) ≡ true) p.tuples t (All-contains (PlannedHolds env (in_all f) v) plan p (all f) m) n)))
  where
    env : Environment
    env = environment (words end.names) v

    in_all : Functions → Functions
    in_all f = with_points f (definition_facts end.names.signatures v end.names.definitions)

    all : (f : Functions) → All (PlannedHolds env (in_all f) v) plan
    all f =
        let values : AreValues end v env (in_all f) = record {
          agrees = words_agree (words end.names) v (words_are_distinct end.names later.made);
          extends = extends_through size end.names v later.made fit sums congruent f;
        } in
        ((is.says end v env (in_all f) later values have).0 lines).1
