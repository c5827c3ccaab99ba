-- What is spelled as a body is read as that body.
use Rattle.std.proofs.Common.{◌≡◌, List, [], ◌∷◌, ◌++◌, Option, Some, refl, sym, ap, ◌∙◌}
use Rattle.hp_tree.specs.declared.term.Term.{Term}
use Rattle.hp_tree.specs.declared.problem.Atom.{Atom}
use Rattle.hp_tree.specs.declared.problem.Cmp.{Cmp}
use Rattle.hp_text.specs.declared.token.Kind.{Kind}
use Rattle.hp_text.specs.declared.token.Kind.TheVariants as kinds
use Rattle.hp_body.specs.declared.state.Front.TheVariants.{Nothing}
use Rattle.hp_body.specs.declared.state.Mode.{Mode}
use Rattle.hp_body.specs.declared.state.Mode.TheVariants.{Part}
use Rattle.hp_body.specs.declared.state.Frame.{Frame}
use Rattle.hp_body.specs.declared.body.Place.{Place}
use Rattle.hp_body.specs.declared.body.Place.TheVariants.{First, Guard, Bare, Head}
use Rattle.hp_body.specs.declared.body.Side.{Side}
use Rattle.hp_body.specs.declared.body.Side.TheVariants.{Left, Right}
use Rattle.hp_body.specs.declared.body.Body.TheVariants.{Reading, Closed}
use Rattle.hp_grammar.specs.declared.symbol.Symbol.{Symbol as Token}
use Rattle.hp_grammar.specs.declared.symbol.Symbol.TheVariants.{Word as word, Name as name, Numeral as numeral}
use Rattle.hp_grammar.specs.Token.{same}
use Rattle.hp_grammar.specs.Bodies.{relation, atom_of, one, more, SpellsAtom, SpellsAtoms, none, some, SpellsHead, empty, atoms, SpellsBody, body}
use Rattle.hp_grammar.specs.Runs.{◌and_then◌, runs}
use Rattle.hp_body.specs.Machine.{State, step, ended, run, at_word, number_goes, factor_goes, end_goes}
use Rattle.hp_body.specs.BodyMachine.{begun, atom_end, at_and, at_arrow, at_or, last, at_false, in_term, relation_or_term, body_word, body_step, body_end, head_goes, false_goes, and_goes, arrow_goes, or_goes, other_goes}
use Rattle.hp_grammar.proofs.Machines.{bound, runs_on, result_of}
use Rattle.hp_body.proofs.Only.{term_ends}

-- a token that a term goes on with is one that its body goes on with
word_in_body : (k : Kind) (p : Place) (d : Side) (m : Mode) (fs : List Frame) (n : State) → step (m, fs) (word k) ≡ Some n
    → body_word k p d m fs ≡ Some (Reading p d n.0 n.1)
unfolding same relation at_word number_goes factor_goes end_goes head_goes body_word and_goes arrow_goes or_goes other_goes
word_in_body kinds.And p d m fs n e = absurd (cc)
word_in_body kinds.Arrow p d m fs n e = absurd (cc)
word_in_body kinds.Or p d m fs n e = absurd (cc)
word_in_body kinds.False p d m fs n e = absurd (cc)
word_in_body kinds.LessEq p d m fs n e = absurd (cc)
word_in_body kinds.Less p d m fs n e = absurd (cc)
word_in_body kinds.Equal p d m fs n e = absurd (cc)
word_in_body kinds.NotEqual p d m fs n e = absurd (cc)
word_in_body kinds.GreaterEq p d m fs n e = absurd (cc)
word_in_body kinds.Greater p d m fs n e = absurd (cc)
word_in_body k p d m fs n e = ap (in_term p d) e

token_in_body : (k : Token) (p : Place) (d : Side) (m : Mode) (fs : List Frame) (n : State) → step (m, fs) k ≡ Some n
    → body_step (Reading p d m fs) k ≡ Some (Reading p d n.0 n.1)
token_in_body (word k) p d m fs n e = word_in_body k p d m fs n e
token_in_body (name x) p d m fs n e = ap (in_term p d) e
token_in_body (numeral x) p d m fs n e = ap (in_term p d) e

pub run_in_body : (u : List Token) (p : Place) (d : Side) (s n : State) → run s u ≡ Some n
    → runs body_step (Reading p d s.0 s.1) u ≡ Some (Reading p d n.0 n.1)
run_in_body [] p d s n e = let same : s ≡ n = cc in ap (λ z. Some (Reading p d z.0 z.1)) same
run_in_body (k ∷ u) p d s n e =
    let b = bound (step s k) (λ c. runs step c u) n e in
    ap (λ o. o and_then λ c. runs body_step c u) (token_in_body k p d s.0 s.1 b.0 b.1) ∙ run_in_body u p d b.0 n b.2

-- reading u goes from the beginning at p to where the atom a ends, whatever it is that follows
pub record AtomEnds (p : Place) (u : List Token) (a : Atom) : Type 0 where
  pub side : Side
  pub mode : Mode
  pub goes : runs body_step (begun p) u ≡ Some (Reading p side mode [])
  pub ended : atom_end side mode [] ≡ Some a

abbrev right_of : Option Term → Cmp → Option (Side × State)
right_of o c = o and_then λ b. Some (Right b c, (Part Nothing, []))

pub at_relation_word : (k : Kind) (c : Cmp) (p : Place) (m : Mode) (a : Term) → relation k ≡ Some c → ended m ≡ Some a
    → body_word k p Left m [] ≡ Some (Reading p (Right a c) (Part Nothing) [])
unfolding same relation body_word head_goes false_goes and_goes arrow_goes or_goes other_goes
at_relation_word kinds.And c p m a q e = absurd (cc)
at_relation_word kinds.Arrow c p m a q e = absurd (cc)
at_relation_word kinds.Or c p m a q e = absurd (cc)
at_relation_word kinds.False c p m a q e = absurd (cc)
at_relation_word k c p m a q e =
    ap (λ o. relation_or_term o k p Left m []) q
    ∙ ap (λ (o : Option Term). right_of o c and_then λ (z : Side × State). Some (Reading p z.0 z.1.0 z.1.1)) e

atom_ends : (p : Place) (u : List Token) (a : Atom) → SpellsAtom u a → AtomEnds p u a
atom_ends p u a h =
    let k = term_ends h.left_tokens h.left_term h.left_is [] in
    let l = term_ends h.right_tokens h.right_term h.right_is [] in
    let start : runs body_step (begun p) h.left_tokens ≡ Some (Reading p Left k.last []) =
    run_in_body h.left_tokens p Left (Part Nothing, []) (k.last, []) k.goes in
    let end : runs body_step (Reading p (Right h.left_term h.cmp_of) (Part Nothing) []) h.right_tokens ≡ Some (Reading p (Right h.left_term h.cmp_of) l.last []) =
    run_in_body h.right_tokens p (Right h.left_term h.cmp_of) (Part Nothing, []) (l.last, []) l.goes in
    record {
      side = Right h.left_term h.cmp_of;
      mode = l.last;
      goes = ap (runs body_step (begun p)) h.tokens
          ∙ (runs_on body_step h.left_tokens (word h.sign ∷ h.right_tokens) (begun p) _ start
          ∙ (ap (λ o. o and_then λ b. runs body_step b h.right_tokens) (at_relation_word h.sign h.cmp_of p k.last h.left_term h.rel_is k.ended) ∙ end));
      ended = ap (λ o. o and_then λ b. Some (atom_of h.left_term h.cmp_of b)) l.ended ∙ ap (λ z. Some z) (sym h.atom);
    }

-- reading u goes from the beginning at p to the end of the last atom of a list, at a place where `&` and `->` do this
pub record GuardEnds (u : List Token) (bs : List Atom) : Type 0 where
  pub place : Place
  pub side : Side
  pub mode : Mode
  pub atom : Atom
  pub goes : runs body_step (begun First) u ≡ Some (Reading place side mode [])
  pub ended : atom_end side mode [] ≡ Some atom
  pub and : at_and place atom ≡ Some (Guard bs)
  pub arrow : at_arrow place atom ≡ Some (Bare bs)

guard_ends : (u : List Token) (bs : List Atom) → SpellsAtoms kinds.And u bs → GuardEnds u bs
unfolding same body_word head_goes false_goes and_goes arrow_goes or_goes other_goes
guard_ends u bs (one v a h) =
    let k = atom_ends First v a h in
    record { place = First; side = k.side; mode = k.mode; atom = a; goes = k.goes; ended = k.ended; and = refl; arrow = refl }
guard_ends u bs (more v w cs a g h) =
    let k = guard_ends v cs g in
    let l = atom_ends (Guard cs) w a h in
    record {
      place = Guard cs;
      side = l.side;
      mode = l.mode;
      atom = a;
      ended = l.ended;
      and = refl;
      arrow = refl;
      goes = runs_on body_step v (word kinds.And ∷ w) (begun First) _ k.goes
          ∙ (ap (λ o. (o and_then λ b. at_and k.place b and_then λ q. Some (begun q)) and_then λ b. runs body_step b w) k.ended
          ∙ (ap (λ o. (o and_then λ q. Some (begun q)) and_then λ b. runs body_step b w) k.and ∙ l.goes));
    }

pub record HeadEnds (p : Place) (gs : List Atom) (u : List Token) (bs : List Atom) : Type 0 where
  pub place : Place
  pub side : Side
  pub mode : Mode
  pub atom : Atom
  pub goes : runs body_step (begun p) u ≡ Some (Reading place side mode [])
  pub ended : atom_end side mode [] ≡ Some atom
  pub or : at_or place atom ≡ Some (Head gs bs)
  pub all : last place atom ≡ Some (gs, bs)

-- a place at which a head may begin, behind this guard
pub record BeginsHead (p : Place) (gs : List Atom) : Type 0 where
  pub or : (a : Atom) → at_or p a ≡ Some (Head gs (a ∷ []))
  pub all : (a : Atom) → last p a ≡ Some (gs, a ∷ [])
  pub false_goes : at_false p Left (Part Nothing) [] ≡ Some (Closed gs)

head_ends : (p : Place) (gs : List Atom) (u : List Token) (bs : List Atom) → BeginsHead p gs → SpellsAtoms kinds.Or u bs → HeadEnds p gs u bs
unfolding same body_word head_goes false_goes and_goes arrow_goes or_goes other_goes
head_ends p gs u bs h (one v a g) =
    let k = atom_ends p v a g in
    record { place = p; side = k.side; mode = k.mode; atom = a; goes = k.goes; ended = k.ended; or = h.or a; all = h.all a }
head_ends p gs u bs h (more v w cs a g i) =
    let k = head_ends p gs v cs h g in
    let l = atom_ends (Head gs cs) w a i in
    record {
      place = Head gs cs;
      side = l.side;
      mode = l.mode;
      atom = a;
      ended = l.ended;
      or = refl;
      all = refl;
      goes = runs_on body_step v (word kinds.Or ∷ w) (begun p) _ k.goes
          ∙ (ap (λ o. (o and_then λ b. at_or k.place b and_then λ q. Some (begun q)) and_then λ b. runs body_step b w) k.ended
          ∙ (ap (λ o. (o and_then λ q. Some (begun q)) and_then λ b. runs body_step b w) k.or ∙ l.goes));
    }

-- a head read at p
head_read : (p : Place) (gs : List Atom) (u : List Token) (bs : List Atom) → BeginsHead p gs → SpellsHead u bs → result_of body_step body_end (begun p) u ≡ Some (gs, bs)
unfolding same body_word head_goes false_goes and_goes arrow_goes or_goes other_goes
head_read p gs u bs h empty = ap (λ o. (o and_then λ b. Some b) and_then body_end) h.false_goes
head_read p gs u bs h (atoms v cs g) =
    let k = head_ends p gs v cs h g in
    ap (λ o. o and_then body_end) k.goes ∙ (ap (λ o. o and_then last k.place) k.ended ∙ k.all)

pub body_read : (u : List Token) (gs bs : List Atom) → SpellsBody u gs bs → result_of body_step body_end (begun First) u ≡ Some (gs, bs)
unfolding same body_word head_goes false_goes and_goes arrow_goes or_goes other_goes
body_read u gs bs (body v w g h none k) = head_read First [] w h (record { or = λ a. refl; all = λ a. refl; false_goes = refl }) k
body_read u gs bs (body v w g h (some x cs i) k) =
    let l = guard_ends x cs i in
    let arrow : runs body_step (begun First) (x ++ word kinds.Arrow ∷ []) ≡ Some (begun (Bare cs)) =
    runs_on body_step x (word kinds.Arrow ∷ []) (begun First) _ l.goes
    ∙ (ap (λ o. (o and_then λ b. at_arrow l.place b and_then λ q. Some (begun q)) and_then λ b. Some b) l.ended
    ∙ ap (λ o. (o and_then λ q. Some (begun q)) and_then λ b. Some b) l.arrow) in
    ap (λ o. o and_then body_end) (runs_on body_step (x ++ word kinds.Arrow ∷ []) w (begun First) _ arrow)
    ∙ head_read (Bare cs) cs w h (record { or = λ a. refl; all = λ a. refl; false_goes = refl }) k
