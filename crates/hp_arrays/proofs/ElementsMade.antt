-- Naming terms whose applications are arrays at variables, where indexes stand for these, makes the elements at the indexes, and nothing else.
use Rattle.std.proofs.Common.{◌≡◌, ◌∙◌, ◌≤◌, ◌<◌, ◌⊎◌, inl, inr, ℕ, zero, suc, List, [], ◌∷◌, ◌++◌, map, length, Bool, true, false, ◌||◌, cond, Option, Some, None, Result, Ok, slice_get, refl, sym, ap, subst, arith}
use Rattle.std.specs.Prelude.{option_map, position, get_or}
use Rattle.std.specs.List.{All, Contains}
use Rattle.std.specs.Str.{bytes_eq}
use Rattle.std.proofs.lemmas.Option.{slice_get_within}
use Rattle.std.proofs.lemmas.List.Elements.{All-append, All-cons, All-contains, All-head, All-nil, All-tail, All-weaker}
use Rattle.hp_math.specs.Rational.{ℚ, whole}
use Rattle.hp_tree.specs.declared.limit.Limit.{Limit}
use Rattle.hp_tree.specs.declared.term.Term.{Term, Name, Number, Null, Add, Sub, Neg, Scale, fold-roll-Term, map-Term, out-Term, out-roll-Term, roll-Term}
use Rattle.hp_tree.specs.declared.term.Term.TheOpen.{Term-F}
use Rattle.hp_tree.specs.declared.term.Term.TheVariants.{rolls-Add, rolls-Name, rolls-Number}
use Rattle.hp_tree.specs.declared.problem.Sort.{Sort}
use Rattle.hp_tree.specs.declared.problem.Sort.TheVariants.{Idx}
use Rattle.hp_tree.specs.declared.problem.Var.{Var}
use Rattle.hp_tree.specs.Value.{Word}
use Rattle.hp_lit.specs.declared.literal.Name as literal
use Rattle.hp_lit.specs.declared.line.Arg.{Arg}
use Rattle.hp_lit.specs.declared.line.Arg.TheVariants as arg
use Rattle.hp_lit.specs.declared.line.Body.{Body}
use Rattle.hp_lit.specs.declared.line.Body.TheVariants.{Apply}
use Rattle.hp_lit.specs.declared.line.Def.{Def}
use Rattle.hp_lit.specs.declared.line.Line.{Line}
use Rattle.hp_lit.proofs.Words.{numbered as stands_there}
use Rattle.hp_index.proofs.Layers.{bare, by_layers}
use Rattle.hp_defs.specs.declared.names.Ground.{Ground}
use Rattle.hp_defs.specs.declared.names.Signature.{Signature}
use Rattle.hp_defs.specs.Fit.{ArgFits}
use Rattle.hp_defs.specs.Made.{IsMade, IsSmallArg}
use Rattle.hp_defs.specs.Names.{BeginsNames, NameList, definition_name, function_words, next, signature_name, sorts, words}
use Rattle.hp_defs.specs.Same.{place}
use Rattle.hp_defs.proofs.Distinct.{length_words}
use Rattle.hp_defs.proofs.Growing.{begins_get, length_sorts, names_begin}
use Rattle.hp_defs.proofs.Lists.{pushed}
use Rattle.hp_local.specs.Substitution.{substitute, substitute_step}
use Rattle.hp_local.proofs.Lists.{contains_first, contains_later}
use Rattle.hp_base.specs.Arguments.{argument_of}
use Rattle.hp_base.specs.Defining.{definition_of, found_or_made}
use Rattle.hp_base.specs.Lines.{with_line}
use Rattle.hp_base.specs.Making.{Begins, Maker, ◌then◌, each, keep}
use Rattle.hp_base.proofs.ArgsDefined.{made_there}
use Rattle.hp_base.proofs.ArgsDefinitions.{definitions_begin, definitions_keep_made, definitions_stand}
use Rattle.hp_base.proofs.ArgsMade.{arguments_stay_fit}
use Rattle.hp_base.proofs.ArgsSteps.{gave}
use Rattle.hp_base.proofs.Growing.{came}
use Rattle.hp_base.proofs.Making.{begins_line, begins_names, begins_same, begins_trans}
use Rattle.hp_norm.specs.Naming.{applied_at, arguments, name_step, name_term, named, one, placed_argument, signed, two}
use Rattle.hp_norm.specs.Opening.{is_variable}
use Rattle.hp_instance.specs.Laws.{ArgumentsComeBack}
use Rattle.hp_instance.specs.Replacing.{arg_term, arg_terms, name_word, replaced_word, replacement}
use Rattle.hp_flatten.specs.declared.application.Application.{Application}
use Rattle.hp_flatten.specs.Applications.{applications, applications_step}
use Rattle.hp_norm.proofs.Seeing.{by_term_roll}
use Rattle.hp_index_set.specs.Rules.{is_read, is_variable_term}
use Rattle.hp_flatten.proofs.HoldsTerms.{applications_apply}
use Rattle.hp_arrays.proofs.Applied.{applied_terms}
use Rattle.hp_arrays.proofs.Fine.{IsReadOf}

-- there is one, or a list is too short
pub reaches : {X : Type 0} (xs : List X) (k : ℕ) → ((x : X) × (slice_get xs k ≡ Some x)) ⊎ (length xs ≤ k)
reaches [] k = inr (omega arith)
reaches (x ∷ xs) zero = inl (x, refl)
reaches (x ∷ xs) (suc k) = elim (reaches xs k) [ inl h ↦ inl h | inr h ↦ inr (omega (arith, h)) ]

-- ---- what grows by elements
module _ (S : Arg → Type 0) where
  -- it grew, and each new definition by an application is one at such an argument alone
  pub record AddsAt (old new : Ground) : Type 0 where
    pub begins : Begins old new
    pub made : IsMade new.names
    pub only : (k : ℕ) (d : Def) (func : ℕ) (xs : List Arg) → length old.names.definitions ≤ k → slice_get new.names.definitions k ≡ Some d → d.body ≡ Apply func xs → (x : Arg) × S x × (xs ≡ x ∷ [])

  pub adds_same : (g : Ground) → IsMade g.names → AddsAt g g
  adds_same g made = record { begins = begins_same g; made = made; only = λ k d func xs late e is. absurd (let h = slice_get_within g.names.definitions k d e in omega (arith, late, h)) }

  pub adds_equal : (old new : Ground) → IsMade old.names → old ≡ new → AddsAt old new
  adds_equal old new made e = subst (λ (g : Ground). AddsAt old g) e (adds_same old made)

  pub adds_through : (old mid new : Ground) → AddsAt old mid → AddsAt mid new → AddsAt old new
  adds_through old mid new p q = record { begins = begins_trans old mid new p.begins q.begins; made = q.made; only = by }
    where
      by : (k : ℕ) (d : Def) (func : ℕ) (xs : List Arg) → length old.names.definitions ≤ k → slice_get new.names.definitions k ≡ Some d → d.body ≡ Apply func xs → (x : Arg) × S x × (xs ≡ x ∷ [])
      by k d func xs late e is = elim (reaches mid.names.definitions k) [
        | inl h ↦
            let front = (begins_names mid new q.begins).definitions in
            let same : h.0 ≡ d = (let both = sym (begins_get mid.names.definitions new.names.definitions k h.0 front h.1) ∙ e in cc) in
            p.only k h.0 func xs late h.1 (ap (λ (x : Def). x.body) same ∙ is)
        | inr far ↦ q.only k d func xs far e is
      ]

  pub adds_line : (g : Ground) (line : Line) → IsMade g.names → AddsAt g (with_line g line)
  adds_line g line made = record {
    begins = begins_line g line (g.lines ++ line ∷ []) refl;
    made = made;
    only = λ k d func xs late e is. absurd (let h = slice_get_within g.names.definitions k d e in omega (arith, late, h));
  }

  own_arguments : (f g : ℕ) (xs ys : List Arg) → ◌≡◌ {A = Body} (Apply f xs) (Apply g ys) → ys ≡ xs
  own_arguments f g xs ys e = cc

  -- an element that is found or made
  pub definition_adds : (func : ℕ) (x : Arg) (name : literal.Name) (old new : Ground) → S x → IsSmallArg x → IsMade old.names → definition_of func (x ∷ []) old ≡ Ok (name, new) → AddsAt old new
  definition_adds func x name old new at small made e = by (place (Apply func (x ∷ [])) old.names.definitions) refl e
    where
      by : (o : Option ℕ) → place (Apply func (x ∷ [])) old.names.definitions ≡ o → found_or_made (Apply func (x ∷ [])) o old ≡ Ok (name, new) → AddsAt old new
      by (Some k) f h = adds_equal old new made (gave (definition_name old.names k) name old new h).ground
      by None f h =
          let m = made_there (Apply func (x ∷ [])) name old new h in
          let own : Def = record { name = next old.names; body = Apply func (x ∷ []) } in
          let all : new.names.definitions ≡ old.names.definitions ++ own ∷ [] = ap (λ (g : Ground). g.names.definitions) (sym m.same) in
          record {
            begins = definitions_begin func (x ∷ []) name old new e;
            made = definitions_keep_made func (x ∷ []) name old new e (All-cons IsSmallArg x [] small (All-nil IsSmallArg)) made;
            only = λ k d g xs late there is. elim (pushed old.names.definitions own k d (subst (λ (ds : List Def). slice_get ds k ≡ Some d) all there)) [
              | inl h ↦ absurd (let within = slice_get_within old.names.definitions k d h in omega (arith, late, within))
              | inr h ↦ (x, at, own_arguments func g (x ∷ []) xs (sym (ap (λ (z : Def). z.body) h.1) ∙ is))
            ];
          }

pub adds_weaker : (S T : Arg → Type 0) → ((x : Arg) → S x → T x) → (old new : Ground) → AddsAt S old new → AddsAt T old new
adds_weaker S T h old new a = record { begins = a.begins; made = a.made; only = λ k d func xs late e is. (let w = a.only k d func xs late e is in (w.0, h w.0 w.1, w.2)) }

-- ---- elements that are there
pub record IsThere (g : Ground) (func : ℕ) (x : Arg) : Type 0 where
  pub at : ℕ
  pub definition : Def
  pub there : slice_get g.names.definitions at ≡ Some definition
  pub body : definition.body ≡ Apply func (x ∷ [])

-- the function of an application at one of these arguments
abbrev pub HasAt : List Word → List Arg → Ground → Application → Type 0
HasAt functions args g a = (func : ℕ) → position (bytes_eq a.func) functions ≡ Some func → (x : Arg) × Contains args x × IsThere g func x

pub has_later : (functions : List Word) (args : List Arg) (old new : Ground) → Begins old new → (apps : List Application) → All (HasAt functions args old) apps → All (HasAt functions args new) apps
has_later functions args old new b apps h =
    All-weaker (HasAt functions args old) (HasAt functions args new)
    (λ a k func e.
    let w = k func e in
    let i = w.2 in
    (w.0, w.1, record { at = i.at; definition = i.definition; there = begins_get old.names.definitions new.names.definitions i.at i.definition (begins_names old new b).definitions i.there; body = i.body }))
    apps h

-- ---- arguments
front_get : {A : Type 0} (xs ys : List A) (k : ℕ) (d : A) → k < length xs → get_or (xs ++ ys) k d ≡ get_or xs k d
front_get [] ys k d h = absurd (omega arith)
front_get (x ∷ xs) ys zero d h = refl
front_get (x ∷ xs) ys (suc k) d h = front_get xs ys k d (omega arith)

-- the term of an index stays while names are added
index_stays : (old new : NameList) → BeginsNames old new → (x : Arg) → ArgFits (sorts old) Idx x → arg_term new x ≡ arg_term old x
index_stays old new b (arg.Number q) h = absurd h
index_stays old new b (arg.Named n) h = absurd h
index_stays old new b arg.Null h = absurd h
index_stays old new b (arg.Index None k) h = refl
index_stays old new b (arg.Index (Some n) k) h =
    let front = (names_begin old new b).words in
    let within = slice_get_within (sorts old) n.0 Idx h in
    let word : name_word new n ≡ name_word old n =
    ap (λ (ws : List Word). get_or ws n.0 []) front.all ∙ front_get (words old) front.more n.0 [] (let all = length_words old in let also = length_sorts old in omega (arith, within, all, also)) in
    ap (λ (w : Word). Add (Name w) (Number (whole k))) word

module _ (item : ℕ) where
  named_number : (q : ℚ) → named item (Number q) ≡ keep (Number q)
  named_number q = ap (named item) (sym (rolls-Number q)) ∙ fold-roll-Term (Maker Term) (name_step item) (Term-F.Number q)

  named_name : (word : Word) → named item (Name word) ≡ keep (Name word)
  named_name word = ap (named item) (sym (rolls-Name word)) ∙ fold-roll-Term (Maker Term) (name_step item) (Term-F.Name word)

  named_add : (a b : Term) → named item (Add a b) ≡ two Add (named item a) (named item b)
  named_add a b = ap (named item) (sym (rolls-Add a b)) ∙ fold-roll-Term (Maker Term) (name_step item) (Term-F.Add a b)

  -- the term of an index names nothing
  index_named : (names : NameList) (g : Ground) (ss : List Sort) (x : Arg) → ArgFits ss Idx x → named item (arg_term names x) g ≡ Ok (arg_term names x, g)
  index_named names g ss (arg.Number q) h = absurd h
  index_named names g ss (arg.Named n) h = absurd h
  index_named names g ss arg.Null h = absurd h
  index_named names g ss (arg.Index None k) h = ap (λ (m : Maker Term). m g) (named_number (whole k))
  index_named names g ss (arg.Index (Some n) k) h =
      ap (λ (m : Maker Term). m g) (named_add (Name (name_word names n)) (Number (whole k)))
      ∙ (λ i. two Add (named_name (name_word names n) i) (named_number (whole k) i) g)

-- ---- variables
-- the argument of a variable
found_in : (names : NameList) (vars : List Var) (args : List Arg) (word : Word) → length args ≡ length vars → is_variable vars word ≡ true
    → (x : Arg) × Contains args x × (replaced_word vars (arg_terms names args) word ≡ arg_term names x)
found_in names [] args word e h = absurd (cc)
found_in names (v ∷ vars) [] word e h = absurd (omega (arith, e))
found_in names (v ∷ vars) (x ∷ args) word e h = by (λ k. found_in names vars args word (omega (arith, e)) k) (bytes_eq v.name word) h
  where
    by : (is_variable vars word ≡ true → (y : Arg) × Contains args y × (replaced_word vars (arg_terms names args) word ≡ arg_term names y)) → (b : Bool) → (b || is_variable vars word) ≡ true
        → (y : Arg) × Contains (x ∷ args) y × (cond b (arg_term names x) (replaced_word vars (arg_terms names args) word) ≡ arg_term names y)
    by rest true k = (x, contains_first x args, refl)
    by rest false k = (let w = rest k in (w.0, contains_later x args w.0 w.1, w.2))

-- a replaced word names nothing
word_named : (item : ℕ) (names : NameList) (g : Ground) (ss : List Sort) (vars : List Var) (args : List Arg) → All (ArgFits ss Idx) args → (word : Word)
    → (t : Term) × (named item (replaced_word vars (arg_terms names args) word) g ≡ Ok (t, g))
word_named item names g ss [] args h word = (Name word, ap (λ (m : Maker Term). m g) (named_name item word))
word_named item names g ss (v ∷ vars) [] h word = (Name word, ap (λ (m : Maker Term). m g) (named_name item word))
word_named item names g ss (v ∷ vars) (x ∷ args) h word =
    elim (bytes_eq v.name word) as (λ b. (t : Term) × (named item (cond b (arg_term names x) (replaced_word vars (arg_terms names args) word)) g ≡ Ok (t, g))) [
      | true ↦ (arg_term names x, index_named item names g ss x (All-head (ArgFits ss Idx) x args h))
      | false ↦ word_named item names g ss vars args (All-tail (ArgFits ss Idx) x args h) word
    ]

-- one argument that is a variable
module _ (vars : List Var) where
  abbrev IsWord : Term → Type 0
  IsWord t = is_variable_term vars (out-Term t) ≡ true → (w : Word) × (t ≡ roll-Term (Term-F.Name w)) × (is_variable vars w ≡ true)

  word_layer : (z : Term-F Term) → is_variable_term vars z ≡ true → (w : Word) × (roll-Term z ≡ roll-Term (Term-F.Name w)) × (is_variable vars w ≡ true)
  word_layer (Term-F.Name word) h = (word, refl, h)
  word_layer (Term-F.Number q) h = absurd (cc)
  word_layer Term-F.Null h = absurd (cc)
  word_layer (Term-F.Apply func args) h = absurd (cc)
  word_layer (Term-F.Add a b) h = absurd (cc)
  word_layer (Term-F.Sub a b) h = absurd (cc)
  word_layer (Term-F.Neg a) h = absurd (cc)
  word_layer (Term-F.Scale q a) h = absurd (cc)

  is_word : (t : Term) → IsWord t
  is_word t = by_layers IsWord (λ y e. word_layer (bare IsWord y) (ap (is_variable_term vars) (sym (out-roll-Term (bare IsWord y))) ∙ e)) t

  read_word : (ts : List Term) → is_read vars ts ≡ true → (w : Word) × (ts ≡ roll-Term (Term-F.Name w) ∷ []) × (is_variable vars w ≡ true)
  read_word [] e = absurd (cc)
  read_word (t ∷ []) e = (let w = is_word t e in (w.0, ap (λ (s : Term). s ∷ []) w.1, w.2))
  read_word (t ∷ s ∷ ts) e = absurd (cc)

get_map_none : {A B : Type 0} (f : A → B) (xs : List A) (k : ℕ) → slice_get xs k ≡ None → slice_get (map f xs) k ≡ None
get_map_none f [] k e = refl
get_map_none f (x ∷ xs) zero e = absurd (cc)
get_map_none f (x ∷ xs) (suc k) e = get_map_none f xs k e

-- ---- terms of a clause at indexes
module _ (back : ArgumentsComeBack) (item : ℕ) (own : Word → Bool) (vars : List Var) (args : List Arg) (g : Ground) (fits : All (ArgFits (sorts g.names) Idx) args) (small : All IsSmallArg args)
    (long : length args ≡ length vars)
    (profiles : (word : Word) (func : ℕ) (s : Signature) → own word ≡ true → position (bytes_eq word) (function_words g.names) ≡ Some func → slice_get g.names.signatures func ≡ Some s → s.args ≡ Idx ∷ []) where
  abbrev ρ : Word → Term
  ρ = replacement g.names vars args

  abbrev Among : Arg → Type 0
  Among = Contains args

  abbrev Has : Ground → Application → Type 0
  Has = HasAt (function_words g.names) args

  -- what was named added elements, and those of these applications are there
  pub record IsNamed (apps : List Application) (old new : Ground) : Type 0 where
    pub adds : AddsAt Among old new
    pub there : All (Has new) apps

  abbrev Named : Term → Type 0
  Named t = (flat : Term) (old new : Ground) → Begins g old → IsMade old.names → named item (substitute ρ t) old ≡ Ok (flat, new) → IsNamed (applications t) old new

  pub named_both : (apps bs : List Application) (old mid new : Ground) → IsNamed apps old mid → IsNamed bs mid new → IsNamed (apps ++ bs) old new
  named_both apps bs old mid new h k = record {
    adds = adds_through Among old mid new h.adds k.adds;
    there = All-append (Has new) apps bs (has_later (function_words g.names) args mid new k.adds.begins apps h.there) k.there;
  }

  pub named_equal : (apps : List Application) (old mid new : Ground) → mid ≡ new → IsNamed apps old mid → IsNamed apps old new
  named_equal apps old mid new e h = subst (λ (z : Ground). IsNamed apps old z) e h

  pub none_named : (old new : Ground) → IsMade old.names → old ≡ new → IsNamed [] old new
  none_named old new made e = record { adds = adds_equal Among old new made e; there = All-nil (Has new) }

  -- the layer of a replaced term
  replaced : (y z : Term-F Term) (old : Ground) → substitute ρ (roll-Term y) ≡ roll-Term z → named item (substitute ρ (roll-Term y)) old ≡ name_step item (map-Term Term (Maker Term) (named item) z) old
  replaced y z old is = ap (λ (m : Maker Term). m old) (ap (named item) is ∙ fold-roll-Term (Maker Term) (name_step item) z)

  fold : (y : Term-F Term) → substitute ρ (roll-Term y) ≡ substitute_step ρ (map-Term Term Term (substitute ρ) y)
  fold y = fold-roll-Term Term (substitute_step ρ) y

  -- said of the applications of a term
  named_as : (t : Term) (apps : List Application) (old new : Ground) → applications t ≡ apps → IsNamed apps old new → IsNamed (applications t) old new
  named_as t apps old new e h = subst (λ (xs : List Application). IsNamed xs old new) (sym e) h

  word_there : (word : Word) → Named (roll-Term (Term-F.Name word))
  word_there word flat old new b made e =
      let w = word_named item g.names old (sorts g.names) vars args fits word in
      let same = (gave w.0 flat old new (sym w.1 ∙ sym (ap (λ t. named item t old) (fold (Term-F.Name word))) ∙ e)).ground in
      named_as (roll-Term (Term-F.Name word)) [] old new (by_term_roll applications_step (Term-F.Name word)) (none_named old new made same)

  leaf : (y : Term-F Term) (x : Term) → applications (roll-Term y) ≡ [] → substitute ρ (roll-Term y) ≡ roll-Term y → name_step item (map-Term Term (Maker Term) (named item) y) ≡ keep x → Named (roll-Term y)
  leaf y x none is kept flat old new b made e =
      let same = (gave x flat old new (sym (replaced y y old is ∙ ap (λ (m : Maker Term). m old) kept) ∙ e)).ground in
      named_as (roll-Term y) [] old new none (none_named old new made same)

  module _ (build : Term → Term) (wrap : Term → Term-F Term) where
    one_named : (a : Term) → applications (roll-Term (wrap a)) ≡ applications a → substitute ρ (roll-Term (wrap a)) ≡ roll-Term (wrap (substitute ρ a))
        → name_step item (map-Term Term (Maker Term) (named item) (wrap (substitute ρ a))) ≡ one build (named item (substitute ρ a)) → Named a → Named (roll-Term (wrap a))
    one_named a of is step h flat old new b made e =
        let s = came (named item (substitute ρ a) old) (λ x. keep (build x)) flat new (sym (replaced (wrap a) (wrap (substitute ρ a)) old is ∙ ap (λ (m : Maker Term). m old) step) ∙ e) in
        named_as (roll-Term (wrap a)) (applications a) old new of
        (named_equal (applications a) old s.mid new (gave (build s.value) flat s.mid new s.rest).ground (h s.value old s.mid b made s.first))

  module _ (build : Term → Term → Term) (wrap : Term → Term → Term-F Term) where
    two_named : (a c : Term) → applications (roll-Term (wrap a c)) ≡ applications a ++ applications c → substitute ρ (roll-Term (wrap a c)) ≡ roll-Term (wrap (substitute ρ a) (substitute ρ c))
        → name_step item (map-Term Term (Maker Term) (named item) (wrap (substitute ρ a) (substitute ρ c))) ≡ two build (named item (substitute ρ a)) (named item (substitute ρ c))
        → Named a → Named c → Named (roll-Term (wrap a c))
    two_named a c of is step h k flat old new b made e =
        let s = came (named item (substitute ρ a) old) (λ x. λ mid. named item (substitute ρ c) mid then λ y. keep (build x y)) flat new
        (sym (replaced (wrap a c) (wrap (substitute ρ a) (substitute ρ c)) old is ∙ ap (λ (m : Maker Term). m old) step) ∙ e) in
        let first = h s.value old s.mid b made s.first in
        let r = came (named item (substitute ρ c) s.mid) (λ y. keep (build s.value y)) flat new s.rest in
        let second = k r.value s.mid r.mid (begins_trans g old s.mid b first.adds.begins) first.adds.made r.first in
        named_as (roll-Term (wrap a c)) (applications a ++ applications c) old new of
        (named_equal (applications a ++ applications c) old r.mid new (gave (build s.value r.value) flat r.mid new r.rest).ground
        (named_both (applications a) (applications c) old s.mid r.mid first second))

  -- ---- elements
  module _ (word w : Word) (is_own : own word ≡ true) (variable : is_variable vars w ≡ true) (flat : Term) (old new : Ground) (b : Begins g old) (made : IsMade old.names) where
    abbrev this : Application
    this = record { func = word; args = roll-Term (Term-F.Name w) ∷ [] }

    abbrev m : Maker Term
    m = named item (ρ w)

    words_same : function_words old.names ≡ function_words g.names
    words_same = ap (λ (ss : List Signature). map signature_name ss) b.signatures

    argument : (x : Arg) × Contains args x × (ρ w ≡ arg_term g.names x)
    argument = found_in g.names vars args w long variable

    abbrev x : Arg
    x = argument.0

    argument_still : arguments item (Idx ∷ []) (m ∷ []) old ≡ Ok (x ∷ [], old)
    argument_still =
        let fit = All-contains (ArgFits (sorts g.names) Idx) args x fits argument.1 in
        let named_is : m old ≡ Ok (arg_term g.names x, old) = ap (λ t. named item t old) argument.2 ∙ index_named item g.names old (sorts g.names) x fit in
        let stays : arg_term g.names x ≡ arg_term old.names x = sym (index_stays g.names old.names (begins_names g old b) x fit) in
        let back_is : argument_of item Idx (arg_term g.names x) old ≡ Ok (x, old) =
        ap (λ t. argument_of item Idx t old) stays ∙ back item Idx x old made (arguments_stay_fit g old Idx x b fit) in
        ap (λ (r : Result (Arg × Ground) Limit). r then λ y. λ mid. each (placed_argument item) [] mid then λ ys. λ end. Ok (y ∷ ys, end))
        (ap (λ (r : Result (Term × Ground) Limit). r then λ term. argument_of item Idx term) named_is ∙ back_is)

    abbrev rest : ℕ → List Arg → Maker Term
    rest func xs mid = definition_of func xs mid then λ name. λ end. Ok (name_term end.names name, end)

    element_made : (func : ℕ) → position (bytes_eq word) (function_words g.names) ≡ Some func → rest func (x ∷ []) old ≡ Ok (flat, new) → IsNamed (this ∷ []) old new
    element_made func at e =
        let s = came (definition_of func (x ∷ []) old) (λ name. λ end. Ok (name_term end.names name, end)) flat new e in
        let same : s.mid ≡ new = (gave (name_term s.mid.names s.value) flat s.mid new s.rest).ground in
        let adds = definition_adds Among func x s.value old s.mid argument.1 (All-contains IsSmallArg args x small argument.1) made s.first in
        let there = definitions_stand func (x ∷ []) s.value old s.mid s.mid s.first (begins_same s.mid) in
        let has : Has s.mid this = λ other f. (
          x,
          argument.1,
          record {
            at = there.place;
            definition = there.definition;
            there = there.there;
            body = there.has_body ∙ ap (λ k. Apply k (x ∷ [])) (let both = sym at ∙ f in cc);
          },
        ) in
        named_equal (this ∷ []) old s.mid new same (record { adds = adds; there = All-cons (Has s.mid) this [] has (All-nil (Has s.mid)) })

    signed_made : (func : ℕ) (o : Option Signature) → slice_get old.names.signatures func ≡ o → position (bytes_eq word) (function_words g.names) ≡ Some func → signed item (m ∷ []) func o old ≡ Ok (flat, new)
        → IsNamed (this ∷ []) old new
    signed_made func None f at e =
        let there = (stands_there (function_words g.names) word (record { 0 = func }) (ap (option_map (λ k. record { 0 = k })) at)).there in
        let none : slice_get (function_words old.names) func ≡ None = get_map_none signature_name old.names.signatures func f in
        let here : slice_get (function_words old.names) func ≡ Some word = ap (λ (ws : List Word). slice_get ws func) words_same ∙ there in
        absurd (let both = sym none ∙ here in cc)
    signed_made func (Some s) f at e =
        let args_are = profiles word func s is_own at (ap (λ (ss : List Signature). slice_get ss func) (sym b.signatures) ∙ f) in
        let given : arguments item s.args (m ∷ []) old ≡ Ok (x ∷ [], old) = ap (λ ss. arguments item ss (m ∷ []) old) args_are ∙ argument_still in
        element_made func at (sym (ap (λ (r : Result (List Arg × Ground) Limit). r then rest func) given) ∙ e)

    applied_made : (o : Option ℕ) → position (bytes_eq word) (function_words old.names) ≡ o → applied_at item (m ∷ []) o old ≡ Ok (flat, new) → IsNamed (this ∷ []) old new
    applied_made None f e =
        let same = (gave Null flat old new e).ground in
        let has : Has new this = λ func at. absurd (let both = sym at ∙ ap (position (bytes_eq word)) (sym words_same) ∙ f in cc) in
        record { adds = adds_equal Among old new made same; there = All-cons (Has new) this [] has (All-nil (Has new)) }
    applied_made (Some func) f e = signed_made func (slice_get old.names.signatures func) refl (ap (position (bytes_eq word)) (sym words_same) ∙ f) e

  apply_named : (word : Word) (ts : List Term) → IsReadOf own vars (record { func = word; args = ts }) → Named (roll-Term (Term-F.Apply word ts))
  apply_named word ts h =
      let w = read_word vars ts h.read in
      subst (λ (us : List Term). Named (roll-Term (Term-F.Apply word us))) (sym w.1) (by w.0 w.2)
    where
      by : (w : Word) → is_variable vars w ≡ true → Named (roll-Term (Term-F.Apply word (roll-Term (Term-F.Name w) ∷ [])))
      by w variable flat old new b made e =
          let name = roll-Term (Term-F.Name w) in
          let is : substitute ρ (roll-Term (Term-F.Apply word (name ∷ []))) ≡ roll-Term (Term-F.Apply word (ρ w ∷ [])) =
          fold (Term-F.Apply word (name ∷ [])) ∙ ap (λ t. roll-Term (Term-F.Apply word (t ∷ []))) (fold (Term-F.Name w)) in
          let of : applications (roll-Term (Term-F.Apply word (name ∷ []))) ≡ record { func = word; args = name ∷ [] } ∷ [] =
          applications_apply word (name ∷ []) ∙ ap (λ (apps : List Application). record { func = word; args = name ∷ [] } ∷ (apps ++ [])) (by_term_roll applications_step (Term-F.Name w)) in
          let made_is = sym (replaced (Term-F.Apply word (name ∷ [])) (Term-F.Apply word (ρ w ∷ [])) old is) ∙ e in
          named_as (roll-Term (Term-F.Apply word (name ∷ []))) (record { func = word; args = name ∷ [] } ∷ []) old new of
          (applied_made word w h.function variable flat old new b made (position (bytes_eq word) (function_words old.names)) refl made_is)

  pub terms_named : (t : Term) → All (IsReadOf own vars) (applications t) → Named t
  terms_named t = applied_terms (IsReadOf own vars) Named (record {
    number = λ q. leaf (Term-F.Number q) (Number q) (by_term_roll applications_step (Term-F.Number q)) (fold (Term-F.Number q)) refl;
    null = leaf Term-F.Null Null (by_term_roll applications_step Term-F.Null) (fold Term-F.Null) refl;
    name = word_there;
    apply = apply_named;
    add = λ a c h k. two_named Add Term-F.Add a c (by_term_roll applications_step (Term-F.Add a c)) (fold (Term-F.Add a c)) refl h k;
    subtract = λ a c h k. two_named Sub Term-F.Sub a c (by_term_roll applications_step (Term-F.Sub a c)) (fold (Term-F.Sub a c)) refl h k;
    neg = λ a h. one_named Neg Term-F.Neg a (by_term_roll applications_step (Term-F.Neg a)) (fold (Term-F.Neg a)) refl h;
    scale = λ q a h. one_named (Scale q) (Term-F.Scale q) a (by_term_roll applications_step (Term-F.Scale q a)) (fold (Term-F.Scale q a)) refl h;
  }) t
