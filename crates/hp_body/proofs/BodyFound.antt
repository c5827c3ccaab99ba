-- What was read of a body is spelled.
use Rattle.std.proofs.Common.{◌≡◌, List, [], ◌∷◌, ◌++◌, Option, Some, None, refl, sym, ap, subst, ◌∙◌, append_assoc, append-nil}
use Rattle.hp_tree.specs.declared.term.Term.{Term}
use Rattle.hp_tree.specs.declared.problem.Atom.{Atom}
use Rattle.hp_tree.specs.declared.problem.Cmp.{Cmp}
use Rattle.hp_text.specs.declared.token.Kind.{Kind}
use Rattle.hp_text.specs.declared.token.Kind.TheVariants as kinds
use Rattle.hp_body.specs.declared.state.Front.TheVariants.{Nothing}
use Rattle.hp_body.specs.declared.state.Mode.{Mode}
use Rattle.hp_body.specs.declared.state.Mode.TheVariants.{Part}
use Rattle.hp_body.specs.declared.state.Frame.{Frame}
use Rattle.hp_body.specs.declared.body.Place.{Place}
use Rattle.hp_body.specs.declared.body.Place.TheVariants.{First, Guard, Bare, Head}
use Rattle.hp_body.specs.declared.body.Side.{Side}
use Rattle.hp_body.specs.declared.body.Side.TheVariants.{Left, Right}
use Rattle.hp_body.specs.declared.body.Body.{Body}
use Rattle.hp_body.specs.declared.body.Body.TheVariants.{Reading, Closed}
use Rattle.hp_grammar.specs.declared.symbol.Symbol.{Symbol as Token}
use Rattle.hp_grammar.specs.declared.symbol.Symbol.TheVariants.{Word as word, Name as name, Numeral as numeral}
use Rattle.hp_grammar.specs.Token.{same}
use Rattle.hp_grammar.specs.Grammar.{SpellsTerm}
use Rattle.hp_grammar.specs.Bodies.{relation, atom_of, one, more, SpellsAtom, SpellsAtoms, SpellsGuard, none, some, empty, atoms, SpellsBody, body}
use Rattle.hp_grammar.specs.Runs.{◌and_then◌, runs}
use Rattle.hp_body.specs.Machine.{step}
use Rattle.hp_body.specs.BodyMachine.{begun, outermost, atom_end, at_and, at_arrow, at_or, last, at_relation, at_false, in_term, relation_or_term, body_word, body_step, body_end, head_goes, false_goes, and_goes, arrow_goes, or_goes, other_goes}
use Rattle.hp_grammar.proofs.Machines.{bound}
use Rattle.hp_body.proofs.Found.{StateIs, ended_is, step_is, ◌and◌}

abbrev pub PlaceIs : Place → List Token → Type 0
PlaceIs First u = u ≡ []
PlaceIs (Guard bs) u = (v : List Token) × SpellsAtoms kinds.And v bs × (u ≡ v and word kinds.And)
PlaceIs (Bare g) u = SpellsGuard u g
PlaceIs (Head g bs) u = (v : List Token) × (w : List Token) × SpellsGuard v g × SpellsAtoms kinds.Or w bs × (u ≡ v ++ (w and word kinds.Or))

abbrev pub SideIs : Side → List Token → Type 0
SideIs Left u = u ≡ []
SideIs (Right a c) u = (v : List Token) × (k : Kind) × SpellsTerm v a × (relation k ≡ Some c) × (u ≡ v and word k)

pub record ReadingIs (p : Place) (d : Side) (m : Mode) (fs : List Frame) (u : List Token) : Type 0 where
  pub place_tokens : List Token
  pub side_tokens : List Token
  pub term_tokens : List Token
  pub place : PlaceIs p place_tokens
  pub side : SideIs d side_tokens
  pub term : StateIs (m, fs) term_tokens
  pub split : u ≡ place_tokens ++ (side_tokens ++ term_tokens)

abbrev pub BodyIs : Body → List Token → Type 0
BodyIs (Reading p d m fs) u = ReadingIs p d m fs u
BodyIs (Closed g) u = (v : List Token) × SpellsGuard v g × (u ≡ v and word kinds.False)

outermost_is : (m : Mode) (fs : List Frame) (u : List Token) (t : Term) → StateIs (m, fs) u → outermost m fs ≡ Some t → SpellsTerm u t
outermost_is m [] u t h e = rw (h.split, h.frames) (ended_is m h.inner t h.mode e)
outermost_is m (f ∷ fs) u t h e = absurd (cc)

atom_is : (d : Side) (m : Mode) (fs : List Frame) (u v : List Token) (a : Atom) → SideIs d u → StateIs (m, fs) v → atom_end d m fs ≡ Some a → SpellsAtom (u ++ v) a
atom_is Left m fs u v a h g e = absurd (cc)
atom_is (Right t c) m fs u v a h g e =
    let b = bound (outermost m fs) (λ b. Some (atom_of t c b)) a e in
    record {
      left_tokens = h.0;
      right_tokens = v;
      left_term = t;
      right_term = b.0;
      sign = h.1;
      cmp_of = c;
      left_is = h.2;
      rel_is = h.3;
      right_is = outermost_is m fs v b.0 g b.1;
      tokens = ap (λ z. z ++ v) h.4 ∙ append_assoc h.0 (word h.1 ∷ []) v;
      atom = cc (b.2);
    }

one_more : (k : Kind) (u v : List Token) (bs : List Atom) (a : Atom) → SpellsAtoms k u bs → SpellsAtom v a → SpellsAtoms k ((u and word k) ++ v) (bs ++ a ∷ [])
one_more k u v bs a h g = rw append_assoc (more u v bs a h g)

and_is : (p q : Place) (u v : List Token) (a : Atom) → PlaceIs p u → SpellsAtom v a → at_and p a ≡ Some q → PlaceIs q ((u ++ v) and word kinds.And)
and_is First q u v a h g e = let same : Guard (a ∷ []) ≡ q = cc in
    subst (λ z. PlaceIs z ((u ++ v) and word kinds.And)) same (v, one v a g, rw h refl)
and_is (Guard bs) q u v a h g e = let same : Guard (bs ++ a ∷ []) ≡ q = cc in
    subst (λ z. PlaceIs z ((u ++ v) and word kinds.And)) same (u ++ v, rw h.2 (one_more _ h.0 v bs a h.1 g), refl)
and_is (Bare g) q u v a h k e = absurd (cc)
and_is (Head g bs) q u v a h k e = absurd (cc)

arrow_is : (p q : Place) (u v : List Token) (a : Atom) → PlaceIs p u → SpellsAtom v a → at_arrow p a ≡ Some q → PlaceIs q ((u ++ v) and word kinds.Arrow)
arrow_is First q u v a h g e = let same : Bare (a ∷ []) ≡ q = cc in
    subst (λ z. PlaceIs z ((u ++ v) and word kinds.Arrow)) same (rw h (some v _ (one v a g)))
arrow_is (Guard bs) q u v a h g e = let same : Bare (bs ++ a ∷ []) ≡ q = cc in
    subst (λ z. PlaceIs z ((u ++ v) and word kinds.Arrow)) same (some (u ++ v) _ (rw h.2 (one_more _ h.0 v bs a h.1 g)))
arrow_is (Bare g) q u v a h k e = absurd (cc)
arrow_is (Head g bs) q u v a h k e = absurd (cc)

or_is : (p q : Place) (u v : List Token) (a : Atom) → PlaceIs p u → SpellsAtom v a → at_or p a ≡ Some q → PlaceIs q ((u ++ v) and word kinds.Or)
or_is First q u v a h g e = let same : Head [] (a ∷ []) ≡ q = cc in
    subst (λ z. PlaceIs z ((u ++ v) and word kinds.Or)) same ([], v, none, one v a g, rw h refl)
or_is (Guard bs) q u v a h g e = absurd (cc)
or_is (Bare g) q u v a h k e = let same : Head g (a ∷ []) ≡ q = cc in
    subst (λ z. PlaceIs z ((u ++ v) and word kinds.Or)) same (u, v, h, one v a k, append_assoc u v _)
or_is (Head g bs) q u v a h k e = let same : Head g (bs ++ a ∷ []) ≡ q = cc in
    subst (λ z. PlaceIs z ((u ++ v) and word kinds.Or)) same
    (h.0, (h.1 and word kinds.Or) ++ v, h.2, one_more _ h.1 v bs a h.3 k, rw h.4 (simp append_assoc))

last_is : (p : Place) (u v : List Token) (a : Atom) (r : List Atom × List Atom) → PlaceIs p u → SpellsAtom v a → last p a ≡ Some r → SpellsBody (u ++ v) r.0 r.1
last_is First u v a r h g e = let same : ([], a ∷ []) ≡ r = cc in
    subst (λ z. SpellsBody (u ++ v) z.0 z.1) same (rw h (body [] v [] _ none (atoms v _ (one v a g))))
last_is (Guard bs) u v a r h g e = absurd (cc)
last_is (Bare gs) u v a r h g e = let same : (gs, a ∷ []) ≡ r = cc in
    subst (λ z. SpellsBody (u ++ v) z.0 z.1) same (body u v gs _ h (atoms v _ (one v a g)))
last_is (Head gs bs) u v a r h g e = let same : (gs, bs ++ a ∷ []) ≡ r = cc in
    subst (λ z. SpellsBody (u ++ v) z.0 z.1) same
    (rw (h.4, append_assoc) (body h.0 _ gs _ h.2 (atoms _ _ (one_more _ h.1 v bs a h.3 g))))

-- a new atom begins behind what ends here
begun_is : (q : Place) (u : List Token) → PlaceIs q u → BodyIs (begun q) u
begun_is q u h = record {
  place_tokens = u;
  side_tokens = [];
  term_tokens = [];
  place = h;
  side = refl;
  term = record { outer = []; inner = []; frames = refl; mode = refl; split = refl };
  split = sym (append-nil u);
}

place_is : (at : Place → Atom → Option Place) (k : Kind) (p : Place) (d : Side) (m : Mode) (fs : List Frame) (u : List Token) (c : Body) → ReadingIs p d m fs u
    → ((q : Place) (x y : List Token) (a : Atom) → PlaceIs p x → SpellsAtom y a → at p a ≡ Some q → PlaceIs q ((x ++ y) and word k))
    → (atom_end d m fs and_then λ a. at p a and_then λ q. Some (begun q)) ≡ Some c → BodyIs c (u and word k)
place_is at k p d m fs u c h next e =
    let b = bound (atom_end d m fs) (λ a. at p a and_then λ q. Some (begun q)) c e in
    let n = bound (at p b.0) (λ q. Some (begun q)) c b.2 in
    let same : begun n.0 ≡ c = cc (n.2) in
    subst (λ z. BodyIs z (u and word k)) same (begun_is n.0 _
    (rw h.split (next n.0 h.place_tokens (h.side_tokens ++ h.term_tokens) b.0 h.place (atom_is d m fs _ _ b.0 h.side h.term b.1) n.1)))

term_step_is : (p : Place) (d : Side) (m : Mode) (fs : List Frame) (u : List Token) (k : Token) (c : Body) → ReadingIs p d m fs u
    → in_term p d (step (m, fs) k) ≡ Some c → BodyIs c (u and k)
term_step_is p d m fs u k c h e =
    let b = bound (step (m, fs) k) (λ s. Some (Reading p d s.0 s.1)) c e in
    let same : Reading p d b.0.0 b.0.1 ≡ c = cc (b.2) in
    subst (λ z. BodyIs z (u and k)) same (record {
      place_tokens = h.place_tokens;
      side_tokens = h.side_tokens;
      term_tokens = h.term_tokens and k;
      place = h.place;
      side = h.side;
      term = step_is (m, fs) b.0 k h.term_tokens h.term b.1;
      split = rw h.split (simp append_assoc);
    })

relation_is : (k : Kind) (r : Cmp) (p : Place) (d : Side) (m : Mode) (fs : List Frame) (u : List Token) (c : Body) → relation k ≡ Some r → ReadingIs p d m fs u
    → (at_relation d m fs r and_then λ e. Some (Reading p e.0 e.1.0 e.1.1)) ≡ Some c → BodyIs c (u and word k)
relation_is k r p Left m fs u c q h e =
    let b = bound (at_relation Left m fs r) (λ e. Some (Reading p e.0 e.1.0 e.1.1)) c e in
    let n = bound (outermost m fs) (λ a. Some (Right a r, (Part Nothing, []))) b.0 b.1 in
    let first : (Right n.0 r, (Part Nothing, [])) ≡ b.0 = cc (n.2) in
    let second : Reading p b.0.0 b.0.1.0 b.0.1.1 ≡ c = cc (b.2) in
    subst (λ z. BodyIs z (u and word k)) (ap (λ e. Reading p e.0 e.1.0 e.1.1) first ∙ second) (record {
      place_tokens = h.place_tokens;
      side_tokens = h.term_tokens and word k;
      term_tokens = [];
      place = h.place;
      side = (h.term_tokens, k, outermost_is m fs h.term_tokens n.0 h.term n.1, q, refl);
      term = record { outer = []; inner = []; frames = refl; mode = refl; split = refl };
      split = rw (h.split, h.side) (simp (append_assoc, append-nil));
    })
relation_is k r p (Right a d) m fs u c q h e = absurd (cc)

false_is : (p : Place) (d : Side) (m : Mode) (fs : List Frame) (u : List Token) (c : Body) → ReadingIs p d m fs u → at_false p d m fs ≡ Some c → BodyIs c (u and word kinds.False)
false_is First Left (Part Nothing) [] u c h e = let same : Closed [] ≡ c = cc in
    subst (λ z. BodyIs z (u and word kinds.False)) same
    ([], none, rw (h.split, h.place, h.side, h.term.split, h.term.frames, h.term.mode) refl)
false_is (Bare g) Left (Part Nothing) [] u c h e = let same : Closed g ≡ c = cc in
    subst (λ z. BodyIs z (u and word kinds.False)) same
    (h.place_tokens, h.place, rw (h.split, h.side, h.term.split, h.term.frames, h.term.mode) (simp (append_assoc, append-nil)))
false_is First Left m (f ∷ fs) u c h e = absurd (cc)
false_is (Bare g) Left m (f ∷ fs) u c h e = absurd (cc)
false_is p d m fs u c h e = absurd (cc)

either_is : (k : Kind) (o : Option Cmp) (p : Place) (d : Side) (m : Mode) (fs : List Frame) (u : List Token) (c : Body) → relation k ≡ o → ReadingIs p d m fs u
    → relation_or_term o k p d m fs ≡ Some c → BodyIs c (u and word k)
either_is k (Some r) p d m fs u c q h e = relation_is k r p d m fs u c q h e
either_is k None p d m fs u c q h e = term_step_is p d m fs u (word k) c h e

body_word_is : (k : Kind) (p : Place) (d : Side) (m : Mode) (fs : List Frame) (u : List Token) (c : Body) → ReadingIs p d m fs u
    → body_word k p d m fs ≡ Some c → BodyIs c (u and word k)
unfolding same body_word head_goes false_goes and_goes arrow_goes or_goes other_goes
body_word_is kinds.And p d m fs u c h e = place_is at_and kinds.And p d m fs u c h (λ q x y a. and_is p q x y a) e
body_word_is kinds.Arrow p d m fs u c h e = place_is at_arrow kinds.Arrow p d m fs u c h (λ q x y a. arrow_is p q x y a) e
body_word_is kinds.Or p d m fs u c h e = place_is at_or kinds.Or p d m fs u c h (λ q x y a. or_is p q x y a) e
body_word_is kinds.False p d m fs u c h e = false_is p d m fs u c h e
body_word_is k p d m fs u c h e = either_is k (relation k) p d m fs u c refl h e

pub body_step_is : (b c : Body) (k : Token) (u : List Token) → BodyIs b u → body_step b k ≡ Some c → BodyIs c (u and k)
body_step_is (Closed g) c k u h e = absurd (cc)
body_step_is (Reading p d m fs) c (word k) u h e = body_word_is k p d m fs u c h e
body_step_is (Reading p d m fs) c (name x) u h e = term_step_is p d m fs u (name x) c h e
body_step_is (Reading p d m fs) c (numeral n) u h e = term_step_is p d m fs u (numeral n) c h e

body_run_is : (v : List Token) (b c : Body) (u : List Token) → BodyIs b u → runs body_step b v ≡ Some c → BodyIs c (u ++ v)
body_run_is [] b c u h e = let same : b ≡ c = cc in subst (λ z. BodyIs z (u ++ [])) same (rw append-nil h)
body_run_is (k ∷ v) b c u h e =
    let n = bound (body_step b k) (λ a. runs body_step a v) c e in
    subst (λ z. BodyIs c z) (append_assoc u (k ∷ []) v) (body_run_is v n.0 c (u and k) (body_step_is b n.0 k u h n.1) n.2)

body_end_is : (b : Body) (u : List Token) (r : List Atom × List Atom) → BodyIs b u → body_end b ≡ Some r → SpellsBody u r.0 r.1
body_end_is (Closed g) u r h e = let same : (g, []) ≡ r = cc in
    subst (λ z. SpellsBody u z.0 z.1) same (rw h.2 (body h.0 _ g [] h.1 empty))
body_end_is (Reading p d m fs) u r h e =
    let n = bound (atom_end d m fs) (last p) r e in
    rw h.split (last_is p h.place_tokens _ n.0 r h.place (atom_is d m fs _ _ n.0 h.side h.term n.1) n.2)

-- what was read as a body is one
pub body_is : (u : List Token) (b : Body) (r : List Atom × List Atom) → runs body_step (begun First) u ≡ Some b → body_end b ≡ Some r → SpellsBody u r.0 r.1
body_is u b r e q = body_end_is b u r (body_run_is u (begun First) b [] (begun_is First [] refl) e) q
