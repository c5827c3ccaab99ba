-- The lines of a group make definitions by applications of the functions that its clauses apply, and of no other ones.
use Rattle.std.proofs.Common.{◌≡◌, ◌∙◌, ◌++◌, ℕ, Bool, true, false, List, [], ◌∷◌, map, Option, Some, None, Ok, refl, sym, ap, subst}
use Rattle.std.specs.Prelude.{slice_get, if◌then◌else◌}
use Rattle.std.specs.List.{All}
use Rattle.std.specs.Str.{bytes_eq}
use Rattle.std.proofs.lemmas.List.Elements.{All-head, All-nil, All-cons, All-tail}
use Rattle.hp_math.specs.Rational.{ℚ, whole}
use Rattle.hp_tree.specs.declared.term.Term.{Term, Number, Null, Name, Add, fold-roll-Term, map-Term}
use Rattle.hp_tree.specs.declared.term.Term.TheOpen.{Term-F}
use Rattle.hp_tree.specs.declared.term.Term.TheVariants.{rolls-Number, rolls-Null, rolls-Name, rolls-Add}
use Rattle.hp_tree.specs.declared.problem.Atom.{Atom}
use Rattle.hp_tree.specs.declared.problem.Var.{Var}
use Rattle.hp_tree.specs.Value.{Word}
use Rattle.hp_terms.specs.Occurring.{functions_in, functions_step}
use Rattle.hp_lit.specs.declared.line.Arg.{Arg}
use Rattle.hp_lit.specs.declared.line.Arg.TheVariants as arg
use Rattle.hp_local.specs.Substitution.{substitute, substitute_atom, substitute_step}
use Rattle.hp_local.proofs.Folds.{folds_fuse}
use Rattle.hp_defs.specs.declared.names.Ground.{Ground}
use Rattle.hp_defs.specs.declared.names.Signature.{Signature}
use Rattle.hp_defs.specs.Names.{NameList, function_words, signature_name}
use Rattle.hp_base.specs.Congruence.{congruence_literals}
use Rattle.hp_base.specs.Lines.{add_line}
use Rattle.hp_base.specs.Making.{Begins, Maker, ◌then◌, computed, in_turn}
use Rattle.hp_base.proofs.Growing.{came}
use Rattle.hp_norm.specs.declared.flat.FlatClause.{FlatClause}
use Rattle.hp_norm.specs.Laws.{WordPasses, WordsOfAtomPass}
use Rattle.hp_norm.specs.Naming.{named_atoms}
use Rattle.hp_norm.specs.Scopes.{clause_scope}
use Rattle.hp_norm.proofs.MakingOnly.{GrowsOnly, computed_only, in_turn_only, line_only, only_through, then_only, value_only}
use Rattle.hp_norm.proofs.TermsOnly.{atoms_only}
use Rattle.hp_instance.specs.declared.tuple.Tuple.{Tuple}
use Rattle.hp_instance.specs.Instances.{at_clause, atom_sorts, instance, instance_line, sorted_literals}
use Rattle.hp_instance.specs.Replacing.{arg_term, arg_terms, name_word, replaced_atoms, replaced_word, replacement}
use Rattle.hp_class.specs.Group.{Planned, plan_lines, planned_lines}
use Rattle.hp_class.specs.Laws.{ClausePasses, GroupMakesOnly}
use Rattle.hp_class.specs.Points.{function_lines, pair_line, pairs, points, signature_lines}

-- ---- replaced variables apply no function
number_none : (q : ℚ) → functions_in (Number q) ≡ []
number_none q = ap functions_in (sym (rolls-Number q)) ∙ fold-roll-Term (List Word) functions_step (Term-F.Number q)

name_none : (word : Word) → functions_in (Name word) ≡ []
name_none word = ap functions_in (sym (rolls-Name word)) ∙ fold-roll-Term (List Word) functions_step (Term-F.Name word)

null_none : functions_in Null ≡ []
null_none = ap functions_in (sym rolls-Null) ∙ fold-roll-Term (List Word) functions_step Term-F.Null

add_both : (a b : Term) → functions_in (Add a b) ≡ functions_in a ++ functions_in b
add_both a b = ap functions_in (sym (rolls-Add a b)) ∙ fold-roll-Term (List Word) functions_step (Term-F.Add a b)

module _ (names : NameList) where
  arg_none : (x : Arg) → functions_in (arg_term names x) ≡ []
  arg_none (arg.Number q) = number_none q
  arg_none (arg.Named n) = name_none (name_word names n)
  arg_none (arg.Index None k) = number_none (whole k)
  arg_none (arg.Index (Some n) k) = add_both (Name (name_word names n)) (Number (whole k)) ∙ (λ i. name_none (name_word names n) i ++ number_none (whole k) i)
  arg_none arg.Null = null_none

  word_none : (vars : List Var) (args : List Arg) (word : Word) → functions_in (replaced_word vars (arg_terms names args) word) ≡ []
  word_none [] args word = name_none word
  word_none (v ∷ vars) [] word = name_none word
  word_none (v ∷ vars) (x ∷ args) word =
      elim (bytes_eq v.name word) as (λ b. functions_in (if b then arg_term names x else replaced_word vars (arg_terms names args) word) ≡ []) [
        | true ↦ arg_none x
        | false ↦ word_none vars args word
      ]

  term_same : (vars : List Var) (args : List Arg) (t : Term) → functions_in (substitute (replacement names vars args) t) ≡ functions_in t
  term_same vars args t = folds_fuse Term (List Word) (substitute_step (replacement names vars args)) functions_step functions_in each t
    where
      each : (y : Term-F Term) → functions_in (substitute_step (replacement names vars args) y) ≡ functions_step (map-Term Term (List Word) functions_in y)
      each (Term-F.Number n) = simp fold-roll-Term
      each Term-F.Null = simp fold-roll-Term
      each (Term-F.Name n) = word_none vars args n
      each (Term-F.Apply func ts) = simp fold-roll-Term
      each (Term-F.Add a b) = simp fold-roll-Term
      each (Term-F.Sub a b) = simp fold-roll-Term
      each (Term-F.Neg a) = simp fold-roll-Term
      each (Term-F.Scale n a) = simp fold-roll-Term

module _ (test : ℕ → Bool) (functions : List Word) where
  atom_passes : (names : NameList) (vars : List Var) (args : List Arg) (a : Atom) → WordsOfAtomPass test functions a
      → WordsOfAtomPass test functions (substitute_atom (replacement names vars args) a)
  atom_passes names vars args a h = record {
    left = subst (All (WordPasses test functions)) (sym (term_same names vars args a.left)) h.left;
    right = subst (All (WordPasses test functions)) (sym (term_same names vars args a.right)) h.right;
  }

  atoms_pass : (names : NameList) (vars : List Var) (args : List Arg) (atoms : List Atom) → All (WordsOfAtomPass test functions) atoms
      → All (WordsOfAtomPass test functions) (replaced_atoms names vars args atoms)
  atoms_pass names vars args [] h = All-nil (WordsOfAtomPass test functions)
  atoms_pass names vars args (a ∷ atoms) h =
      All-cons (WordsOfAtomPass test functions) (substitute_atom (replacement names vars args) a) (replaced_atoms names vars args atoms)
      (atom_passes names vars args a (All-head (WordsOfAtomPass test functions) a atoms h)) (atoms_pass names vars args atoms (All-tail (WordsOfAtomPass test functions) a atoms h))

  -- ---- makers from ground sets with these functions
  abbrev From : {A : Type 0} → Maker A → Type 0
  From {A} m = (old new : Ground) (x : A) → function_words old.names ≡ functions → m old ≡ Ok (x, new) → GrowsOnly test old new

  functions_stay : (old mid : Ground) → Begins old mid → function_words old.names ≡ functions → function_words mid.names ≡ functions
  functions_stay old mid b same = ap (λ (ss : List Signature). map signature_name ss) b.signatures ∙ same

  then_from : {A B : Type 0} (m : Maker A) (f : A → Maker B) → From m → ((x : A) → From (f x)) → From (λ g. m g then f)
  then_from m f p q old new y same e =
      let c = came (m old) f y new e in
      let first = p old c.mid c.value same c.first in
      only_through test old c.mid new first (q c.value c.mid new y (functions_stay old c.mid first.begins same) c.rest)

  turns_from : {X : Type 0} (P : X → Type 0) (f : X → Maker (Unit {0})) → ((x : X) → P x → From (f x)) → (xs : List X) → All P xs → From (in_turn f xs)
  turns_from P f each [] all old new x same e = value_only test tt old new x e
  turns_from P f each (y ∷ ys) all old new x same e =
      then_from (f y) (λ done. in_turn f ys) (each y (All-head P y ys all)) (λ done. turns_from P f each ys (All-tail P y ys all)) old new x same e

  -- ---- instances
  line_made : (c : FlatClause) (shown : List Arg) (names : NameList) (guard head : List Atom) → From (instance_line c shown names guard head)
  line_made c shown names guard head old new y same e =
      let lits = sorted_literals old.names (atom_sorts (clause_scope names c.vars) c.guard) guard (atom_sorts (clause_scope names c.vars) c.head) head in
      then_only test (computed c.item lits) (λ ls. add_line (at_clause c.clause shown ls)) (computed_only test c.item lits) (λ ls. line_only test (at_clause c.clause shown ls)) old new y e

  instance_made : (c : FlatClause) → ClausePasses test functions c → (t : Tuple) → From (instance c t)
  instance_made c passes t old new y same e =
      let guard_atoms = replaced_atoms old.names c.vars t.args c.guard in
      let head_atoms = replaced_atoms old.names c.vars t.args c.head in
      then_from (named_atoms c.item guard_atoms) (λ guard. λ mid. named_atoms c.item head_atoms mid then λ head. instance_line c t.shown old.names guard head)
      (atoms_only test functions c.item guard_atoms (atoms_pass old.names c.vars t.args c.guard passes.guard))
      (λ guard. then_from (named_atoms c.item head_atoms) (λ head. instance_line c t.shown old.names guard head)
      (atoms_only test functions c.item head_atoms (atoms_pass old.names c.vars t.args c.head passes.head)) (λ head. line_made c t.shown old.names guard head))
      old new y same e

  planned_made : (p : Planned) → ClausePasses test functions p.clause → From (planned_lines p)
  planned_made p passes = turns_from (λ t. Unit {0}) (instance p.clause) (λ t u. instance_made p.clause passes t) p.tuples (λ i d h. tt)

  -- ---- functions
  signature_made : (func : ℕ) (signature : Option Signature) → From (signature_lines func signature)
  signature_made func None old new y same e = value_only test tt old new y e
  signature_made func (Some signature) old new y same e =
      in_turn_only test (pair_line signature) (pairs (points func old.names.definitions))
      (λ pair. then_only test (computed signature.item (congruence_literals signature pair.0 pair.1)) _ (computed_only test signature.item (congruence_literals signature pair.0 pair.1)) (λ lits. line_only test _))
      old new y e

  function_made : (func : ℕ) → From (function_lines func)
  function_made func old new y same e = signature_made func (slice_get old.names.signatures func) old new y same e

  pub group_made : (own : List ℕ) (plan : List Planned) → All (λ p. ClausePasses test functions p.clause) plan → From (λ g. plan_lines plan g then λ done. in_turn function_lines own)
  group_made own plan passes =
      then_from (plan_lines plan) (λ done. in_turn function_lines own) (turns_from (λ p. ClausePasses test functions p.clause) planned_lines planned_made plan passes)
      (λ done. turns_from (λ func. Unit {0}) function_lines (λ func u. function_made func) own (λ i d h. tt))

pub group_makes_only : GroupMakesOnly
group_makes_only test own plan done before after passes e = (group_made test (function_words before.names) own (plan before.names) passes before after done refl e).only
