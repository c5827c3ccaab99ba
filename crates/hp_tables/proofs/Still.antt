-- A monotone clause at arguments of applications that are there makes no definition.
use Rattle.std.proofs.Common.{◌≡◌, ℕ, List, [], ◌∷◌, Bool, true, false, cond, map, Option, Some, None, Result, Ok, refl, sym, ap, ◌∙◌}
use Rattle.std.specs.Prelude.{slice_get}
use Rattle.std.proofs.Common.{position}
use Rattle.std.specs.Str.{bytes_eq}
use Rattle.hp_math.specs.Rational.{ℚ}
use Rattle.hp_tree.specs.declared.limit.Limit.{Limit}
use Rattle.hp_tree.specs.declared.term.Term.{Term, Name, Number, Apply, fold-roll-Term}
use Rattle.hp_tree.specs.declared.term.Term.TheOpen.{Term-F}
use Rattle.hp_tree.specs.declared.term.Term.TheVariants.{rolls-Number, rolls-Name, rolls-Apply}
use Rattle.hp_tree.specs.declared.problem.Atom.{Atom}
use Rattle.hp_tree.specs.declared.problem.Sort.TheVariants.{Num}
use Rattle.hp_tree.specs.Universal.{Universal}
use Rattle.hp_tree.specs.Value.{Word}
use Rattle.hp_lit.specs.declared.line.Arg.{Arg}
use Rattle.hp_lit.specs.declared.line.Arg.TheVariants as arg
use Rattle.hp_lit.specs.declared.line.Body.{Body}
use Rattle.hp_lit.specs.declared.line.Body.TheVariants as bodies
use Rattle.hp_lit.specs.declared.line.Def.{Def}
use Rattle.hp_defs.specs.declared.names.Ground.{Ground}
use Rattle.hp_defs.specs.declared.names.Signature.{Signature}
use Rattle.hp_defs.specs.Fit.{ArgFits}
use Rattle.hp_defs.specs.First.{IsFirst}
use Rattle.hp_defs.specs.Made.{IsMade}
use Rattle.hp_defs.specs.Names.{NameList, function_words, definition_name, signature_name, sorts}
use Rattle.hp_defs.specs.Same.{place}
use Rattle.hp_defs.proofs.Distinct.{position_of}
use Rattle.hp_defs.proofs.Same.{place_is_exact}
use Rattle.hp_local.specs.Monotone.{Shape, at_most, lower_term, upper_term, shape_clause}
use Rattle.hp_local.specs.Substitution.{substitute, substitute_atom, substitute_step}
use Rattle.hp_local.proofs.Steps.{same_bytes}
use Rattle.hp_base.specs.Arguments.{argument_of}
use Rattle.hp_base.specs.Defining.{definition_of, found_or_made}
use Rattle.hp_base.specs.Making.{Maker, ◌then◌, each, keep}
use Rattle.hp_base.proofs.ArgsDefined.{get_map}
use Rattle.hp_norm.specs.Naming.{Placed, applied, applied_at, arguments, named, named_atom, named_atoms, name_step, name_term, placed_argument, signed}
use Rattle.hp_instance.specs.Laws.{ArgumentsComeBack}
use Rattle.hp_instance.specs.Replacing.{arg_term, name_word, replaced_atoms, replacement}

-- nothing is made
pub record Still {A : Type 0} (m : Maker A) (g : Ground) : Type 0 where
  pub value : A
  pub is : m g ≡ Ok (value, g)

-- ---- terms
named_number : (item : ℕ) (q : ℚ) → named item (Number q) ≡ keep (Number q)
named_number item q = ap (named item) (sym (rolls-Number q)) ∙ fold-roll-Term (Maker Term) (name_step item) (Term-F.Number q)

named_name : (item : ℕ) (word : Word) → named item (Name word) ≡ keep (Name word)
named_name item word = ap (named item) (sym (rolls-Name word)) ∙ fold-roll-Term (Maker Term) (name_step item) (Term-F.Name word)

named_apply : (item : ℕ) (word : Word) (args : List Term) → named item (Apply word args) ≡ applied item word (map (named item) args)
named_apply item word args = ap (named item) (sym (rolls-Apply word args)) ∙ fold-roll-Term (Maker Term) (name_step item) (Term-F.Apply word args)

arg_named : (item : ℕ) (names : NameList) (g : Ground) (x : Arg) → ArgFits (sorts names) Num x → named item (arg_term names x) g ≡ Ok (arg_term names x, g)
arg_named item names g (arg.Number q) h = ap (λ (m : Maker Term). m g) (named_number item q)
arg_named item names g (arg.Named name) h = ap (λ (m : Maker Term). m g) (named_name item (name_word names name))
arg_named item names g (arg.Index base offset) h = absurd h
arg_named item names g arg.Null h = absurd h

-- the place of a body that a definition has
body_there : (b : Body) (ds : List Def) (k : ℕ) (d : Def) → slice_get ds k ≡ Some d → d.body ≡ b → (j : ℕ) × (place b ds ≡ Some j)
body_there b ds k d e is = by (place b ds) refl (place_is_exact b ds)
  where
    by : (o : Option ℕ) → place b ds ≡ o → IsFirst b (map (λ (x : Def). x.body) ds) o → (j : ℕ) × (place b ds ≡ Some j)
    by None p f = absurd (f k (get_map (λ (x : Def). x.body) ds k d e ∙ ap (λ (z : Body). Some z) is))
    by (Some j) p f = (j, p)

module _ (back : ArgumentsComeBack) (item : ℕ) (g : Ground) (made : IsMade g.names) (func : ℕ) (s : Signature) (known : slice_get g.names.signatures func ≡ Some s) (args_are : s.args ≡ Num ∷ []) where
  -- an argument of the function, at which it is applied
  pub record IsThere (x : Arg) : Type 0 where
    pub fits : ArgFits (sorts g.names) Num x
    pub at : ℕ
    pub definition : Def
    pub there : slice_get g.names.definitions at ≡ Some definition
    pub body : definition.body ≡ bodies.Apply func (x ∷ [])

  abbrev rest : List Arg → Maker Term
  rest xs mid = definition_of func xs mid then λ name. λ end. Ok (name_term end.names name, end)

  argument_still : (x : Arg) → ArgFits (sorts g.names) Num x → arguments item s.args (named item (arg_term g.names x) ∷ []) g ≡ Ok (x ∷ [], g)
  argument_still x fits =
      let t = arg_term g.names x in
      let P : Placed = record { named = named item t; sort = Num } in
      let one : placed_argument item P g ≡ Ok (x, g) =
      ap (λ (r : Result (Term × Ground) Limit). r then λ term. argument_of item Num term) (arg_named item g.names g x fits) ∙ back item Num x g made fits in
      ap (λ ss. arguments item ss (named item t ∷ []) g) args_are
      ∙ ap (λ (r : Result (Arg × Ground) Limit). r then λ y. λ mid. each (placed_argument item) [] mid then λ ys. λ end. Ok (y ∷ ys, end)) one

  value_still : (word : Word) (x : Arg) → s.name ≡ word → IsThere x → Still (named item (Apply word (arg_term g.names x ∷ []))) g
  value_still word x is h =
      let ms = named item (arg_term g.names x) ∷ [] in
      let where_is : position (bytes_eq word) (function_words g.names) ≡ Some func =
      ap (λ (w : Word). position (bytes_eq w) (function_words g.names)) (sym is)
      ∙ position_of (function_words g.names) func s.name made.functions (get_map signature_name g.names.signatures func s known) in
      let found = body_there (bodies.Apply func (x ∷ [])) g.names.definitions h.at h.definition h.there h.body in
      record {
        value = name_term g.names (definition_name g.names found.0);
        is = ap (λ (m : Maker Term). m g) (named_apply item word (arg_term g.names x ∷ []))
            ∙ ap (λ o. applied_at item ms o g) where_is
            ∙ ap (λ o. signed item ms func o g) known
            ∙ ap (λ (r : Result (List Arg × Ground) Limit). r then rest) (argument_still x h.fits)
            ∙ ap (λ o. found_or_made (bodies.Apply func (x ∷ [])) o g then λ name. λ end. Ok (name_term end.names name, end)) found.1;
      }

-- ---- replaced atoms
pub substitute_name : (r : Word → Term) (word : Word) → substitute r (Name word) ≡ r word
substitute_name r word = ap (substitute r) (sym (rolls-Name word)) ∙ fold-roll-Term Term (substitute_step r) (Term-F.Name word)

pub substitute_apply : (r : Word → Term) (word : Word) (args : List Term) → substitute r (Apply word args) ≡ Apply word (map (substitute r) args)
substitute_apply r word args = ap (substitute r) (sym (rolls-Apply word args)) ∙ fold-roll-Term Term (substitute_step r) (Term-F.Apply word args) ∙ rolls-Apply word (map (substitute r) args)

atom_still : (item : ℕ) (atom : Atom) (g : Ground) → Still (named item atom.left) g → Still (named item atom.right) g → Still (named_atom item atom) g
atom_still item atom g l r = record {
  value = record { left = l.value; cmp = atom.cmp; right = r.value };
  is = ap (λ (q : Result (Term × Ground) Limit). q then λ left. λ mid. named item atom.right mid then λ right. keep (record { left = left; cmp = atom.cmp; right = right })) l.is
      ∙ ap (λ (q : Result (Term × Ground) Limit). q then λ right. keep (record { left = l.value; cmp = atom.cmp; right = right })) r.is;
}

one_atom_still : (item : ℕ) (atom : Atom) (g : Ground) → Still (named_atom item atom) g → Still (named_atoms item (atom ∷ [])) g
one_atom_still item atom g h = record {
  value = h.value ∷ [];
  is = ap (λ (q : Result (Atom × Ground) Limit). q then λ y. λ mid. each (named_atom item) [] mid then λ ys. λ end. Ok (y ∷ ys, end)) h.is;
}

module _ (item : ℕ) (g : Ground) (r : Word → Term) where
  abbrev IsStill : Term → Type 0
  IsStill t = Still (named item (substitute r t)) g

  chosen_still : (b : Bool) (s t : Term) → IsStill s → IsStill t → IsStill (cond b s t)
  chosen_still true s t p q = p
  chosen_still false s t p q = q

  at_most_still : (turned : Bool) (s t : Term) → IsStill s → IsStill t → Still (named_atom item (substitute_atom r (at_most turned s t))) g
  at_most_still false s t p q = atom_still item (substitute_atom r (at_most false s t)) g p q
  at_most_still true s t p q = atom_still item (substitute_atom r (at_most true s t)) g q p

module _ (back : ArgumentsComeBack) (item : ℕ) (g : Ground) (made : IsMade g.names) (func : ℕ) (s : Signature) (known : slice_get g.names.signatures func ≡ Some s) (args_are : s.args ≡ Num ∷ [])
    (shape : Shape) (different : bytes_eq shape.first shape.second ≡ false) (x y : Arg) (p : IsThere back item g made func s known args_are x) (q : IsThere back item g made func s known args_are y) where
  abbrev clause : Universal
  clause = shape_clause s.name shape

  abbrev ρ : Word → Term
  ρ = replacement g.names clause.vars (x ∷ y ∷ [])

  first_is : ρ shape.first ≡ arg_term g.names x
  first_is = rw (same_bytes shape.first) refl

  second_is : ρ shape.second ≡ arg_term g.names y
  second_is = rw (different, same_bytes shape.second) refl

  name_still : (word : Word) (z : Arg) → ArgFits (sorts g.names) Num z → ρ word ≡ arg_term g.names z → IsStill item g ρ (Name word)
  name_still word z fits e =
      let is = substitute_name ρ word ∙ e in
      record { value = arg_term g.names z; is = ap (λ t. named item t g) is ∙ arg_named item g.names g z fits }

  apply_still : (word : Word) (z : Arg) → IsThere back item g made func s known args_are z → ρ word ≡ arg_term g.names z → IsStill item g ρ (Apply s.name (Name word ∷ []))
  apply_still word z h e =
      let is : substitute ρ (Apply s.name (Name word ∷ [])) ≡ Apply s.name (arg_term g.names z ∷ []) =
      substitute_apply ρ s.name (Name word ∷ []) ∙ ap (λ t. Apply s.name (t ∷ [])) (substitute_name ρ word ∙ e) in
      let v = value_still back item g made func s known args_are s.name z refl h in
      record { value = v.value; is = ap (λ t. named item t g) is ∙ v.is }

  lower_still : IsStill item g ρ (lower_term shape)
  lower_still = chosen_still item g ρ shape.first_lower (Name shape.first) (Name shape.second) (name_still shape.first x p.fits first_is) (name_still shape.second y q.fits second_is)

  upper_still : IsStill item g ρ (upper_term shape)
  upper_still = chosen_still item g ρ shape.first_lower (Name shape.second) (Name shape.first) (name_still shape.second y q.fits second_is) (name_still shape.first x p.fits first_is)

  at_choice : (b : Bool) (v w : Word) → IsStill item g ρ (Apply s.name (Name v ∷ [])) → IsStill item g ρ (Apply s.name (Name w ∷ [])) → IsStill item g ρ (Apply s.name (cond b (Name v) (Name w) ∷ []))
  at_choice true v w h k = h
  at_choice false v w h k = k

  value_lower : IsStill item g ρ (Apply s.name (lower_term shape ∷ []))
  value_lower = at_choice shape.first_lower shape.first shape.second (apply_still shape.first x p first_is) (apply_still shape.second y q second_is)

  value_upper : IsStill item g ρ (Apply s.name (upper_term shape ∷ []))
  value_upper = at_choice shape.first_lower shape.second shape.first (apply_still shape.second y q second_is) (apply_still shape.first x p first_is)

  pub guard_still : Still (named_atoms item (replaced_atoms g.names clause.vars (x ∷ y ∷ []) clause.guard)) g
  guard_still = one_atom_still item _ g (at_most_still item g ρ shape.guard_turned (lower_term shape) (upper_term shape) lower_still upper_still)

  pub head_still : Still (named_atoms item (replaced_atoms g.names clause.vars (x ∷ y ∷ []) clause.head)) g
  head_still =
      one_atom_still item _ g (at_most_still item g ρ shape.head_turned _ _
      (chosen_still item g ρ shape.rising (Apply s.name (lower_term shape ∷ [])) (Apply s.name (upper_term shape ∷ [])) value_lower value_upper)
      (chosen_still item g ρ shape.rising (Apply s.name (upper_term shape ∷ [])) (Apply s.name (lower_term shape ∷ [])) value_upper value_lower))
