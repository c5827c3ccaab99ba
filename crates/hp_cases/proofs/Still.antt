-- The guard of a clause of cases, and its function, make no definition at the arguments of an application that is there.
use Rattle.std.proofs.Common.{◌≡◌, ◌∙◌, ℕ, zero, suc, ◌<◌, ◌≤◌, get_or, List, [], ◌∷◌, ◌++◌, map, length, true, false, Option, Some, None, Result, Ok, refl, sym, ap, subst, arith}
use Rattle.std.specs.Prelude.{codes, if◌then◌else◌, position, slice_get}
use Rattle.std.specs.List.{AllZip}
use Rattle.std.specs.Str.{bytes_eq}
use Rattle.std.proofs.lemmas.List.Elements.{All-head, All-tail}
use Rattle.std.proofs.lemmas.Option.{slice_get_within}
use Rattle.hp_math.specs.Rational.{ℚ}
use Rattle.hp_tree.specs.Limits.{most_arguments}
use Rattle.hp_tree.specs.declared.limit.Limit.{Limit}
use Rattle.hp_tree.specs.declared.term.Term.{Term, Name, Number, Apply, Add, Sub, Neg, Scale, Null, fold-roll-Term, map-Term, roll-Term}
use Rattle.hp_tree.specs.declared.term.Term.TheOpen.{Term-F}
use Rattle.hp_tree.specs.declared.term.Term.TheVariants.{rolls-Number, rolls-Name, rolls-Apply}
use Rattle.hp_tree.specs.declared.problem.Atom.{Atom}
use Rattle.hp_tree.specs.declared.problem.Sort.{Sort}
use Rattle.hp_tree.specs.declared.problem.Sort.TheVariants.{Num}
use Rattle.hp_tree.specs.declared.problem.Var.{Var}
use Rattle.hp_tree.specs.Value.{Word}
use Rattle.hp_lit.specs.declared.line.Arg.{Arg}
use Rattle.hp_lit.specs.declared.line.Arg.TheVariants as arg
use Rattle.hp_lit.specs.declared.line.Body.{Body}
use Rattle.hp_lit.specs.declared.line.Body.TheVariants as bodies
use Rattle.hp_lit.specs.declared.line.Def.{Def}
use Rattle.hp_defs.specs.declared.names.Ground.{Ground}
use Rattle.hp_defs.specs.declared.names.Signature.{Signature}
use Rattle.hp_defs.specs.Fit.{ArgFits}
use Rattle.hp_defs.specs.First.{IsFirst}
use Rattle.hp_defs.specs.Made.{IsMade}
use Rattle.hp_defs.specs.Names.{BeginsNames, NameList, function_words, definition_name, signature_name, sorts, words}
use Rattle.hp_defs.specs.Same.{place}
use Rattle.hp_defs.proofs.Distinct.{length_words, position_of}
use Rattle.hp_defs.proofs.Growing.{begins_get, length_sorts, names_begin}
use Rattle.hp_defs.proofs.Same.{place_is_exact}
use Rattle.hp_local.specs.Substitution.{substitute, substitute_atom, substitute_step}
use Rattle.hp_base.specs.Arguments.{argument_of}
use Rattle.hp_base.specs.Defining.{definition_of, found_or_made}
use Rattle.hp_base.specs.Making.{Begins, Maker, ◌then◌, each, keep}
use Rattle.hp_base.proofs.ArgsDefined.{get_map}
use Rattle.hp_base.proofs.ArgsMade.{arguments_stay_fit}
use Rattle.hp_base.proofs.Making.{begins_names}
use Rattle.hp_norm.specs.Naming.{Placed, applied, applied_at, arguments, named, named_atom, named_atoms, name_step, name_term, placed, placed_argument, signed, one, two}
use Rattle.hp_instance.specs.Laws.{ArgumentsComeBack}
use Rattle.hp_instance.specs.Replacing.{arg_term, arg_terms, name_word, replaced_atoms, replaced_word, replacement}
use Rattle.hp_flatten.specs.declared.application.Application.{Application}
use Rattle.hp_flatten.specs.Applications.{applications, atoms_applications}
use Rattle.hp_flatten.specs.Flattening.{argument_names, argument_vars}
use Rattle.hp_flatten.specs.Laws.{AreNum}
use Rattle.hp_tables.proofs.Still.{Still, substitute_apply, substitute_name}
use Rattle.hp_cases.proofs.Applied.{both_none, lower_terms, none_lower}
use Rattle.hp_cases.proofs.Fitting.{AreNumArgs, num_args}

-- ---- steps that make nothing
one_still : (build : Term → Term) (m : Maker Term) (g : Ground) → Still m g → Still (one build m) g
one_still build m g h = record { value = build h.value; is = ap (λ (r : Result (Term × Ground) Limit). r then λ x. keep (build x)) h.is }

two_still : (build : Term → Term → Term) (m n : Maker Term) (g : Ground) → Still m g → Still n g → Still (two build m n) g
two_still build m n g h k = record {
  value = build h.value k.value;
  is = ap (λ (r : Result (Term × Ground) Limit). r then λ x. λ mid. n mid then λ y. keep (build x y)) h.is
      ∙ ap (λ (r : Result (Term × Ground) Limit). r then λ y. keep (build h.value y)) k.is;
}

atom_still : (item : ℕ) (atom : Atom) (g : Ground) → Still (named item atom.left) g → Still (named item atom.right) g → Still (named_atom item atom) g
atom_still item atom g l r = record {
  value = record { left = l.value; cmp = atom.cmp; right = r.value };
  is = ap (λ (q : Result (Term × Ground) Limit). q then λ left. λ mid. named item atom.right mid then λ right. keep (record { left = left; cmp = atom.cmp; right = right })) l.is
      ∙ ap (λ (q : Result (Term × Ground) Limit). q then λ right. keep (record { left = l.value; cmp = atom.cmp; right = right })) r.is;
}

no_atoms_still : (item : ℕ) (g : Ground) → Still (named_atoms item []) g
no_atoms_still item g = record { value = []; is = refl }

more_atoms_still : (item : ℕ) (atom : Atom) (atoms : List Atom) (g : Ground) → Still (named_atom item atom) g → Still (named_atoms item atoms) g → Still (named_atoms item (atom ∷ atoms)) g
more_atoms_still item atom atoms g h k = record {
  value = h.value ∷ k.value;
  is = ap (λ (q : Result (Atom × Ground) Limit). q then λ y. λ mid. each (named_atom item) atoms mid then λ ys. λ end. Ok (y ∷ ys, end)) h.is
      ∙ ap (λ (q : Result (List Atom × Ground) Limit). q then λ ys. λ end. Ok (h.value ∷ ys, end)) k.is;
}

-- ---- terms of arguments
named_number : (item : ℕ) (q : ℚ) → named item (Number q) ≡ keep (Number q)
named_number item q = ap (named item) (sym (rolls-Number q)) ∙ fold-roll-Term (Maker Term) (name_step item) (Term-F.Number q)

named_name : (item : ℕ) (word : Word) → named item (Name word) ≡ keep (Name word)
named_name item word = ap (named item) (sym (rolls-Name word)) ∙ fold-roll-Term (Maker Term) (name_step item) (Term-F.Name word)

named_apply : (item : ℕ) (word : Word) (args : List Term) → named item (Apply word args) ≡ applied item word (map (named item) args)
named_apply item word args = ap (named item) (sym (rolls-Apply word args)) ∙ fold-roll-Term (Maker Term) (name_step item) (Term-F.Apply word args)

arg_named : (item : ℕ) (names : NameList) (g : Ground) (x : Arg) → ArgFits (sorts names) Num x → named item (arg_term names x) g ≡ Ok (arg_term names x, g)
arg_named item names g (arg.Number q) h = ap (λ (m : Maker Term). m g) (named_number item q)
arg_named item names g (arg.Named name) h = ap (λ (m : Maker Term). m g) (named_name item (name_word names name))
arg_named item names g (arg.Index base offset) h = absurd h
arg_named item names g arg.Null h = absurd h

-- the term for a word is that of an argument, or the word as a name
word_still : (item : ℕ) (names : NameList) (g : Ground) (vars : List Var) (args : List Arg) → AreNumArgs (sorts names) args → (word : Word) → Still (named item (replaced_word vars (arg_terms names args) word)) g
word_still item names g [] args h word = record { value = Name word; is = ap (λ (m : Maker Term). m g) (named_name item word) }
word_still item names g (v ∷ vars) [] h word = record { value = Name word; is = ap (λ (m : Maker Term). m g) (named_name item word) }
word_still item names g (v ∷ vars) (x ∷ args) h word =
    elim (bytes_eq v.name word) as (λ b. Still (named item (if b then arg_term names x else replaced_word vars (arg_terms names args) word)) g) [
      | true ↦ record { value = arg_term names x; is = arg_named item names g x h.0 }
      | false ↦ word_still item names g vars args h.1 word
    ]

-- ---- terms without applications
module _ (item : ℕ) (g : Ground) (r : Word → Term) (words : (word : Word) → Still (named item (r word)) g) where
  abbrev IsStill : Term → Type 0
  IsStill t = Still (named item (substitute r t)) g

  fold : (y : Term-F Term) → substitute r (roll-Term y) ≡ substitute_step r (map-Term Term Term (substitute r) y)
  fold y = fold-roll-Term Term (substitute_step r) y

  replaced : (y z : Term-F Term) → substitute r (roll-Term y) ≡ roll-Term z → Still (name_step item (map-Term Term (Maker Term) (named item) z)) g → IsStill (roll-Term y)
  replaced y z is h = record {
    value = h.value;
    is = ap (λ (m : Maker Term). m g) (ap (named item) is ∙ fold-roll-Term (Maker Term) (name_step item) z) ∙ h.is;
  }

  -- no application
  abbrev None_is : Application → Type 0
  None_is a = ⊥

  pub bare_still : (t : Term) → applications t ≡ [] → IsStill t
  bare_still t e = lower_terms None_is IsStill (record {
    number = λ q. replaced (Term-F.Number q) (Term-F.Number q) (fold (Term-F.Number q)) (record { value = Number q; is = refl });
    null = replaced Term-F.Null Term-F.Null (fold Term-F.Null) (record { value = Null; is = refl });
    name = λ word. subst (λ (t : Term). Still (named item t) g) (sym (fold (Term-F.Name word))) (words word);
    apply = λ func args none h. absurd none;
    add = λ a b h k. replaced (Term-F.Add a b) (Term-F.Add (substitute r a) (substitute r b)) (fold (Term-F.Add a b)) (two_still Add _ _ g h k);
    subtract = λ a b h k. replaced (Term-F.Sub a b) (Term-F.Sub (substitute r a) (substitute r b)) (fold (Term-F.Sub a b)) (two_still Sub _ _ g h k);
    neg = λ a h. replaced (Term-F.Neg a) (Term-F.Neg (substitute r a)) (fold (Term-F.Neg a)) (one_still Neg _ g h);
    scale = λ q a h. replaced (Term-F.Scale q a) (Term-F.Scale q (substitute r a)) (fold (Term-F.Scale q a)) (one_still (Scale q) _ g h);
  }) t (none_lower None_is t e)

  pub bare_atoms_still : (atoms : List Atom) → atoms_applications atoms ≡ [] → Still (named_atoms item (map (substitute_atom r) atoms)) g
  bare_atoms_still [] e = no_atoms_still item g
  bare_atoms_still (a ∷ atoms) e =
      let w = both_none (applications a.left ++ applications a.right) (atoms_applications atoms) e in
      let s = both_none (applications a.left) (applications a.right) w.0 in
      more_atoms_still item (substitute_atom r a) (map (substitute_atom r) atoms) g
      (atom_still item (substitute_atom r a) g (bare_still a.left s.0) (bare_still a.right s.1)) (bare_atoms_still atoms w.1)

-- ---- the words of arguments at arguments
arguments_stand : (names : NameList) (args : List Arg) → length args ≤ most_arguments
    → map (substitute (replacement names (argument_vars (length args)) args)) (argument_names (length args)) ≡ arg_terms names args
arguments_stand names [] h = refl
arguments_stand names (x ∷ []) h = (let r = replacement names (argument_vars 1) (x ∷ []) in λ i. substitute_name r (codes "$1") i ∷ [])
arguments_stand names (x ∷ y ∷ []) h = (let r = replacement names (argument_vars 2) (x ∷ y ∷ []) in λ i. substitute_name r (codes "$1") i ∷ substitute_name r (codes "$2") i ∷ [])
arguments_stand names (x ∷ y ∷ z ∷ []) h =
    (let r = replacement names (argument_vars 3) (x ∷ y ∷ z ∷ []) in λ i. substitute_name r (codes "$1") i ∷ substitute_name r (codes "$2") i ∷ substitute_name r (codes "$3") i ∷ [])
arguments_stand names (x ∷ y ∷ z ∷ w ∷ []) h =
    (let r = replacement names (argument_vars 4) (x ∷ y ∷ z ∷ w ∷ []) in
    λ i. substitute_name r (codes "$1") i ∷ substitute_name r (codes "$2") i ∷ substitute_name r (codes "$3") i ∷ substitute_name r (codes "$4") i ∷ [])
arguments_stand names (x ∷ y ∷ z ∷ w ∷ u ∷ args) h = absurd (omega (arith, h))

-- the place of a body that a definition has
body_there : (b : Body) (ds : List Def) (k : ℕ) (d : Def) → slice_get ds k ≡ Some d → d.body ≡ b → (j : ℕ) × (place b ds ≡ Some j)
body_there b ds k d e is = by (place b ds) refl (place_is_exact b ds)
  where
    by : (o : Option ℕ) → place b ds ≡ o → IsFirst b (map (λ (x : Def). x.body) ds) o → (j : ℕ) × (place b ds ≡ Some j)
    by None p f = absurd (f k (get_map (λ (x : Def). x.body) ds k d e ∙ ap (λ (z : Body). Some z) is))
    by (Some j) p f = (j, p)

-- arguments at which a function is applied
pub record IsThere (g : Ground) (func : ℕ) (s : Signature) (xs : List Arg) : Type 0 where
  pub fits : AreNumArgs (sorts g.names) xs
  pub places : AllZip (ArgFits (sorts g.names)) s.args xs
  pub at : ℕ
  pub definition : Def
  pub there : slice_get g.names.definitions at ≡ Some definition
  pub body : definition.body ≡ bodies.Apply func xs

-- they stay such
fit_later : (old new : Ground) → Begins old new → (ss : List Sort) (xs : List Arg) → AllZip (ArgFits (sorts old.names)) ss xs → AllZip (ArgFits (sorts new.names)) ss xs
fit_later old new b [] [] h = tt
fit_later old new b [] (x ∷ xs) h = absurd h
fit_later old new b (z ∷ ss) [] h = absurd h
fit_later old new b (z ∷ ss) (x ∷ xs) h = (arguments_stay_fit old new z x b h.0, fit_later old new b ss xs h.1)

pub there_later : (old new : Ground) (func : ℕ) (s : Signature) (xs : List Arg) → Begins old new → AreNum s.args → IsThere old func s xs → IsThere new func s xs
there_later old new func s xs b nums h =
    let places = fit_later old new b s.args xs h.places in
    record {
      fits = num_args (sorts new.names) s.args xs nums places;
      places = places;
      at = h.at;
      definition = h.definition;
      there = begins_get old.names.definitions new.names.definitions h.at h.definition (begins_names old new b).definitions h.there;
      body = h.body;
    }

-- and their terms stay
front_get : {A : Type 0} (xs ys : List A) (k : ℕ) (d : A) → k < length xs → get_or (xs ++ ys) k d ≡ get_or xs k d
front_get [] ys k d h = absurd (omega arith)
front_get (x ∷ xs) ys zero d h = refl
front_get (x ∷ xs) ys (suc k) d h = front_get xs ys k d (omega arith)

term_stays : (old new : NameList) → BeginsNames old new → (x : Arg) → ArgFits (sorts old) Num x → arg_term new x ≡ arg_term old x
term_stays old new b (arg.Number q) h = refl
term_stays old new b (arg.Named n) h =
    let front = (names_begin old new b).words in
    let within = slice_get_within (sorts old) n.0 Num h in
    let word : name_word new n ≡ name_word old n =
    ap (λ (ws : List Word). get_or ws n.0 []) front.all ∙ front_get (words old) front.more n.0 [] (let all = length_words old in let also = length_sorts old in omega (arith, within, all, also)) in
    ap (λ (w : Word). Name w) word
term_stays old new b (arg.Index base offset) h = absurd h
term_stays old new b arg.Null h = absurd h

pub terms_stay : (old new : NameList) → BeginsNames old new → (xs : List Arg) → AreNumArgs (sorts old) xs → arg_terms new xs ≡ arg_terms old xs
terms_stay old new b [] h = refl
terms_stay old new b (x ∷ xs) h = (λ i. term_stays old new b x h.0 i ∷ terms_stay old new b xs h.1 i)

module _ (back : ArgumentsComeBack) (item : ℕ) (g : Ground) (made : IsMade g.names) (func : ℕ) (s : Signature) (known : slice_get g.names.signatures func ≡ Some s) (nums : AreNum s.args) where
  abbrev rest : List Arg → Maker Term
  rest xs mid = definition_of func xs mid then λ name. λ end. Ok (name_term end.names name, end)

  args_still : (ss : List Sort) (xs : List Arg) → AreNum ss → AllZip (ArgFits (sorts g.names)) ss xs → arguments item ss (map (named item) (arg_terms g.names xs)) g ≡ Ok (xs, g)
  args_still [] [] n h = refl
  args_still [] (x ∷ xs) n h = absurd h
  args_still (z ∷ ss) [] n h = absurd h
  args_still (z ∷ ss) (x ∷ xs) n h =
      let ms = placed (map (named item) (arg_terms g.names xs)) ss in
      let P : Placed = record { named = named item (arg_term g.names x); sort = z } in
      let num = subst (λ (y : Sort). ArgFits (sorts g.names) y x) (All-head (λ (y : Sort). y ≡ Num) z ss n) h.0 in
      let one : placed_argument item P g ≡ Ok (x, g) =
      ap (λ (r : Result (Term × Ground) Limit). r then λ term. argument_of item z term) (arg_named item g.names g x num) ∙ back item z x g made h.0 in
      ap (λ (r : Result (Arg × Ground) Limit). r then λ y. λ mid. each (placed_argument item) ms mid then λ ys. λ end. Ok (y ∷ ys, end)) one
      ∙ ap (λ (r : Result (List Arg × Ground) Limit). r then λ ys. λ end. Ok (x ∷ ys, end)) (args_still ss xs (All-tail (λ (y : Sort). y ≡ Num) z ss n) h.1)

  pub value_still : (xs : List Arg) → IsThere g func s xs → Still (named item (Apply s.name (arg_terms g.names xs))) g
  value_still xs h =
      let ms = map (named item) (arg_terms g.names xs) in
      let where_is : position (bytes_eq s.name) (function_words g.names) ≡ Some func =
      position_of (function_words g.names) func s.name made.functions (get_map signature_name g.names.signatures func s known) in
      let found = body_there (bodies.Apply func xs) g.names.definitions h.at h.definition h.there h.body in
      record {
        value = name_term g.names (definition_name g.names found.0);
        is = ap (λ (m : Maker Term). m g) (named_apply item s.name (arg_terms g.names xs))
            ∙ ap (λ o. applied_at item ms o g) where_is
            ∙ ap (λ o. signed item ms func o g) known
            ∙ ap (λ (r : Result (List Arg × Ground) Limit). r then rest) (args_still s.args xs nums h.places)
            ∙ ap (λ o. found_or_made (bodies.Apply func xs) o g then λ name. λ end. Ok (name_term end.names name, end)) found.1;
      }

-- ---- a clause at them
module _ (names : NameList) (count : ℕ) (few : count ≤ most_arguments) (xs : List Arg) (counted : length xs ≡ count) where
  abbrev ρ : Word → Term
  ρ = replacement names (argument_vars count) xs

  -- the function at the words of the arguments is it at the arguments
  pub value_at : (word : Word) → substitute ρ (Apply word (argument_names count)) ≡ Apply word (arg_terms names xs)
  value_at word =
      let stand = subst (λ n. map (substitute (replacement names (argument_vars n) xs)) (argument_names n) ≡ arg_terms names xs) counted
      (arguments_stand names xs (subst (λ n. n ≤ most_arguments) (sym counted) few)) in
      substitute_apply ρ word (argument_names count) ∙ ap (λ ts. Apply word ts) stand

  pub guard_still : (item : ℕ) (g : Ground) → AreNumArgs (sorts names) xs → (guard : List Atom) → atoms_applications guard ≡ [] → Still (named_atoms item (replaced_atoms names (argument_vars count) xs guard)) g
  guard_still item g fits guard bare = bare_atoms_still item g ρ (word_still item names g (argument_vars count) xs fits) guard bare
