-- Flat clauses and arguments for their variables fit names that grow.
use Rattle.std.proofs.Common.{◌≡◌, ◌∙◌, ℕ, zero, suc, ◌<◌, ◌≤◌, List, [], ◌∷◌, ◌++◌, map, length, get_or, Option, Some, None, true, false, refl, sym, ap, subst, arith}
use Rattle.std.specs.Prelude.{option_and_then, option_map, position, slice_get}
use Rattle.std.specs.Option.{option_or}
use Rattle.std.specs.Str.{bytes_eq}
use Rattle.std.specs.List.{All, AllZip}
use Rattle.std.proofs.lemmas.List.Elements.{All-contains, All-weaker}
use Rattle.std.proofs.lemmas.Option.{slice_get_within}
use Rattle.hp_math.specs.Rational.{whole}
use Rattle.hp_names.specs.Names.{is_among}
use Rattle.hp_tree.specs.declared.problem.Atom.{Atom}
use Rattle.hp_tree.specs.declared.problem.Sort.{Sort}
use Rattle.hp_tree.specs.declared.problem.Sort.TheVariants.{Num, Idx, Ptr}
use Rattle.hp_tree.specs.declared.term.Term.{Term, fold-Term}
use Rattle.hp_tree.specs.declared.term.Term as term
use Rattle.hp_tree.specs.declared.problem.Var.{Var}
use Rattle.hp_tree.specs.Value.{Word}
use Rattle.hp_terms.specs.Scope.{Profile, Widens}
use Rattle.hp_terms.specs.Sorting.{atom_is_sorted}
use Rattle.hp_index.specs.Fit.{largest_side}
use Rattle.hp_terms.proofs.Wider.{wider_scopes_keep_sorts}
use Rattle.hp_lit.specs.declared.literal.Name.{Name}
use Rattle.hp_lit.specs.declared.line.Arg.{Arg}
use Rattle.hp_lit.specs.declared.line.Arg.TheVariants.{Number, Named, Index, Null}
use Rattle.hp_defs.specs.declared.names.Constant.{Constant}
use Rattle.hp_defs.specs.declared.names.Ground.{Ground}
use Rattle.hp_defs.specs.declared.names.Signature.{Signature}
use Rattle.hp_defs.specs.Fit.{ArgFits}
use Rattle.hp_defs.specs.Made.{IsMade}
use Rattle.hp_defs.specs.Names.{BeginsNames, NameList, constant_name, profile_of, signature_name, sorts, words}
use Rattle.hp_defs.proofs.Distinct.{length_words}
use Rattle.hp_defs.proofs.Growing.{length_sorts, names_begin}
use Rattle.hp_local.proofs.Lists.{All-by}
use Rattle.hp_local.specs.Substitution.{substitute_atom}
use Rattle.hp_base.specs.Lines.{flat_scope}
use Rattle.hp_base.specs.Making.{Begins}
use Rattle.hp_base.proofs.ArgsMade.{arguments_stay_fit}
use Rattle.hp_base.proofs.ArgsScopes.{scopes_widen}
use Rattle.hp_norm.specs.declared.flat.FlatClause.{FlatClause}
use Rattle.hp_norm.specs.Scopes.{clause_scope, function_profile, term_scope, variable_sort}
use Rattle.hp_norm.specs.Flat.{IsFlat}
use Rattle.hp_instance.specs.Laws.{HasLightSides, IsLightAt, TupleFits}
use Rattle.hp_norm.specs.Loads.{IsLightWithin, Load, argument_sorts, load, load_step}
use Rattle.hp_instance.specs.Replacing.{arg_term, arg_terms, name_word, replaced_word}
use Rattle.hp_norm.proofs.Loads.{within_later}
use Rattle.hp_instance.specs.declared.tuple.Tuple.{Tuple}
use Rattle.hp_class.specs.Group.{Planned, PlannedFits}

-- names without lines
abbrev alone : NameList → Ground
alone names = record { names = names; lines = [] }

alone_begin : (old new : NameList) → BeginsNames old new → Begins (alone old) (alone new)
alone_begin old new b = record { constants = b.constants; signatures = b.signatures; made = b.definitions.more; definitions = b.definitions.all; added = []; lines = refl }

-- ---- scopes
profiles_same : (old new : NameList) (word : Word) → new.signatures ≡ old.signatures → function_profile old word ≡ function_profile new word
profiles_same old new word e =
    ap (λ (ss : List Signature). option_map profile_of (option_and_then (λ at. slice_get ss at) (position (bytes_eq word) (map signature_name ss)))) (sym e)

pub clause_scopes_widen : (vars : List Var) (old new : NameList) → BeginsNames old new → IsMade new → Widens (clause_scope old vars) (clause_scope new vars)
clause_scopes_widen vars old new b made = record {
  names = λ word sort e. wider word sort (variable_sort vars word) e;
  functions = λ word profile e. subst (λ (o : Option Profile). o ≡ Some profile) (profiles_same old new word b.signatures) e;
  pointers = λ number e. e;
}
  where
    flat : Widens (flat_scope old) (flat_scope new)
    flat = scopes_widen (alone old) (alone new) (alone_begin old new b) made

    wider : (word : Word) (sort : Sort) (o : Option Sort) → option_or o ((flat_scope old).name word) ≡ Some sort → option_or o ((flat_scope new).name word) ≡ Some sort
    wider word sort (Some s) e = e
    wider word sort None e = flat.names word sort e

atoms_stay : (vars : List Var) (old new : NameList) → BeginsNames old new → IsMade new → (atoms : List Atom)
    → All (λ a. atom_is_sorted (clause_scope old vars) a ≡ true) atoms → All (λ a. atom_is_sorted (clause_scope new vars) a ≡ true) atoms
atoms_stay vars old new b made atoms h =
    All-weaker (λ a. atom_is_sorted (clause_scope old vars) a ≡ true) (λ a. atom_is_sorted (clause_scope new vars) a ≡ true)
    (λ a e. (wider_scopes_keep_sorts (clause_scope old vars) (clause_scope new vars) a (clause_scopes_widen vars old new b made) e).1) atoms h

-- ---- clauses and plans
pub flat_stays : (old new : NameList) (c : FlatClause) → BeginsNames old new → IsMade new → IsFlat old c → IsFlat new c
flat_stays old new c b made h = record {
  distinct = h.distinct;
  plain = h.plain;
  fresh = subst (λ (cs : List Constant). All (λ (v : Var). is_among v.name (map constant_name cs) ≡ false) c.vars) (sym b.constants) h.fresh;
  guard = atoms_stay c.vars old new b made c.guard h.guard;
  head = atoms_stay c.vars old new b made c.head h.head;
  guard_light = h.guard_light;
  head_light = h.head_light;
}

args_stay : (old new : NameList) → BeginsNames old new → (vars : List Var) (args : List Arg)
    → AllZip (λ (v : Var) (x : Arg). ArgFits (sorts old) v.sort x) vars args → AllZip (λ (v : Var) (x : Arg). ArgFits (sorts new) v.sort x) vars args
args_stay old new b [] [] h = h
args_stay old new b [] (x ∷ args) h = absurd h
args_stay old new b (v ∷ vars) [] h = absurd h
args_stay old new b (v ∷ vars) (x ∷ args) h =
    (arguments_stay_fit (alone old) (alone new) v.sort x (alone_begin old new b) h.0, args_stay old new b vars args h.1)

-- ---- words of arguments
front_get : {A : Type 0} (xs ys : List A) (k : ℕ) (d : A) → k < length xs → get_or (xs ++ ys) k d ≡ get_or xs k d
front_get [] ys k d h = absurd (omega arith)
front_get (x ∷ xs) ys zero d h = refl
front_get (x ∷ xs) ys (suc k) d h = front_get xs ys k d (omega arith)

module _ (old new : NameList) (b : BeginsNames old new) where
  word_stays : (n : Name) (s : Sort) → slice_get (sorts old) n.0 ≡ Some s → name_word new n ≡ name_word old n
  word_stays n s e =
      let front = (names_begin old new b).words in
      let within : n.0 < length (sorts old) = slice_get_within (sorts old) n.0 s e in
      let many = length_sorts old in
      let all = length_words old in
      ap (λ (ws : List Word). get_or ws n.0 []) front.all ∙ front_get (words old) front.more n.0 [] (omega (arith, within, many, all))

  term_stays : (sort : Sort) (x : Arg) → ArgFits (sorts old) sort x → arg_term new x ≡ arg_term old x
  term_stays Num (Number q) h = refl
  term_stays Num (Named n) h = ap (λ (w : Word). term.Name w) (word_stays n Num h)
  term_stays Num (Index base offset) h = absurd h
  term_stays Num Null h = absurd h
  term_stays Idx (Number q) h = absurd h
  term_stays Idx (Named n) h = absurd h
  term_stays Idx (Index None offset) h = refl
  term_stays Idx (Index (Some n) offset) h = ap (λ (w : Word). term.Add (term.Name w) (term.Number (whole offset))) (word_stays n Idx h)
  term_stays Idx Null h = absurd h
  term_stays Ptr (Number q) h = absurd h
  term_stays Ptr (Named n) h = ap (λ (w : Word). term.Name w) (word_stays n Ptr h)
  term_stays Ptr (Index base offset) h = absurd h
  term_stays Ptr Null h = refl

  terms_stay : (vars : List Var) (args : List Arg) → AllZip (λ (v : Var) (x : Arg). ArgFits (sorts old) v.sort x) vars args → arg_terms new args ≡ arg_terms old args
  terms_stay [] [] h = refl
  terms_stay [] (x ∷ args) h = absurd h
  terms_stay (v ∷ vars) [] h = refl
  terms_stay (v ∷ vars) (x ∷ args) h = (λ i. term_stays v.sort x h.0 i ∷ terms_stay vars args h.1 i)

-- ---- numbers of indexes
loads_same : (old new : NameList) → new.signatures ≡ old.signatures → load (term_scope old) ≡ load (term_scope new)
loads_same old new e = (λ i. fold-Term Load (load_step (λ word. argument_sorts (profiles_same old new word e i))))

module _ (old new : NameList) (b : BeginsNames old new) (made : IsMade new) (c : FlatClause) (args : List Arg) (fits : AllZip (λ (v : Var) (x : Arg). ArgFits (sorts old) v.sort x) c.vars args) where
  abbrev replaced : Atom → List Term → Atom
  replaced a ts = substitute_atom (replaced_word c.vars ts) a

  sides_stay : (a : Atom) → HasLightSides (term_scope old) a → HasLightSides (term_scope new) a
  sides_stay a h =
      let same = loads_same old new b.signatures in
      record {
        left = subst (λ (l : Term → Load). (l a.left).own ≤ largest_side) same h.left;
        right = subst (λ (l : Term → Load). (l a.right).own ≤ largest_side) same h.right;
      }

  atom_stays : (a : Atom) → atom_is_sorted (clause_scope old c.vars) a ≡ true → IsLightAt old c args a → IsLightAt new c args a
  atom_stays a sorted h =
      let terms = sym (terms_stay old new b c.vars args fits) in
      let sort = (wider_scopes_keep_sorts (clause_scope old c.vars) (clause_scope new c.vars) a (clause_scopes_widen c.vars old new b made) sorted).0 in
      record {
        inner = subst (λ (ts : List Term). IsLightWithin (term_scope new) (replaced a ts)) terms (within_later (alone old) (alone new) (replaced a (arg_terms old args)) (alone_begin old new b) h.inner);
        sides = λ e. subst (λ (ts : List Term). HasLightSides (term_scope new) (replaced a ts)) terms (sides_stay (replaced a (arg_terms old args)) (h.sides (sort ∙ e)));
      }

  light_stays : (atoms : List Atom) → All (λ a. atom_is_sorted (clause_scope old c.vars) a ≡ true) atoms → All (IsLightAt old c args) atoms → All (IsLightAt new c args) atoms
  light_stays atoms sorted h =
      All-by (IsLightAt new c args) atoms
      (λ a m. atom_stays a (All-contains (λ x. atom_is_sorted (clause_scope old c.vars) x ≡ true) atoms a sorted m) (All-contains (IsLightAt old c args) atoms a h m))

pub tuple_stays : (old new : NameList) (c : FlatClause) (args : List Arg) → BeginsNames old new → IsMade new → IsFlat old c → TupleFits old c args → TupleFits new c args
tuple_stays old new c args b made flat h = record {
  sorted = args_stay old new b c.vars args h.sorted;
  small = h.small;
  guard = light_stays old new b made c args h.sorted c.guard flat.guard h.guard;
  head = light_stays old new b made c args h.sorted c.head flat.head h.head;
}

pub planned_stays : (clauses : List FlatClause) (old new : NameList) → BeginsNames old new → IsMade new → (p : Planned) → PlannedFits old clauses p → PlannedFits new clauses p
planned_stays clauses old new b made p h = record {
  among = h.among;
  flat = flat_stays old new p.clause b made h.flat;
  tuples = All-weaker (λ (t : Tuple). TupleFits old p.clause t.args) (λ (t : Tuple). TupleFits new p.clause t.args) (λ t k. tuple_stays old new p.clause t.args b made h.flat k) p.tuples h.tuples;
}
