-- Steps of a computation that adds to a ground set, and what a call promises after its first, second or last step.
use Rattle.std.proofs.Common.{◌≡◌, ℕ, List, [], ◌∷◌, ◌++◌, Result, Ok, Err, refl, sym, ap, ◌∙◌, subst, append-nil, append_assoc}
use Rattle.std.specs.Result.{IsErrAnd}
use Rattle.hp_tree.specs.declared.limit.Limit.{Limit as Which}
use Rattle.hp_lit.specs.Growing.{Begins as Front}
use Rattle.hp_lit.specs.declared.line.Body.{Body}
use Rattle.hp_lit.specs.declared.line.Line.{Line}
use Rattle.hp_lit.specs.declared.refusal.GroundErr.{GroundErr}
use Rattle.hp_lit.specs.declared.refusal.GroundErr.TheVariants.{Limit, Memory}
use Rattle.hp_defs.specs.declared.names.Ground.{Ground}
use Rattle.hp_defs.specs.Names.{BeginsNames, NameList, next, with_definition}
use Rattle.hp_linear.specs.Steps.{Refusable}
use Rattle.hp_base.specs.Making.{Begins, Maker, Makes, ◌then◌, computed}

-- ---- what was there
pub begins_same : (g : Ground) → Begins g g
begins_same g = record { constants = refl; signatures = refl; made = []; definitions = sym (append-nil g.names.definitions); added = []; lines = sym (append-nil g.lines) }

pub begins_trans : (a b c : Ground) → Begins a b → Begins b c → Begins a c
begins_trans a b c g h = record {
  constants = h.constants ∙ g.constants;
  signatures = h.signatures ∙ g.signatures;
  made = g.made ++ h.made;
  definitions = h.definitions ∙ ap (λ ds. ds ++ h.made) g.definitions ∙ append_assoc a.names.definitions g.made h.made;
  added = g.added ++ h.added;
  lines = h.lines ∙ ap (λ ls. ls ++ h.added) g.lines ∙ append_assoc a.lines g.added h.added;
}

-- nothing has changed
pub begins_equal : (old new : Ground) → new ≡ old → Begins old new
begins_equal old new e = subst (Begins old) (sym e) (begins_same old)

-- names, or lines, are put back as they were
pub begins_same_names : (g : Ground) (names : NameList) → names ≡ g.names → Begins g (record { names = names; lines = g.lines })
begins_same_names g names e = begins_equal g (record { names = names; lines = g.lines }) (ap (λ (n : NameList). record { names = n; lines = g.lines }) e)

pub begins_same_lines : (g : Ground) (lines : List Line) → lines ≡ g.lines → Begins g (record { names = g.names; lines = lines })
begins_same_lines g lines e = begins_equal g (record { names = g.names; lines = lines }) (ap (λ (ls : List Line). record { names = g.names; lines = ls }) e)

-- with one line more, or one definition more
pub begins_line : (g : Ground) (line : Line) (lines : List Line) → lines ≡ g.lines ++ line ∷ [] → Begins g (record { names = g.names; lines = lines })
begins_line g line lines e = record { constants = refl; signatures = refl; made = []; definitions = sym (append-nil g.names.definitions); added = line ∷ []; lines = e }

pub begins_definition : (g : Ground) (names : NameList) (body : Body) → names ≡ with_definition g.names body → Begins g (record { names = names; lines = g.lines })
begins_definition g names body e = record {
  constants = ap (λ (n : NameList). n.constants) e;
  signatures = ap (λ (n : NameList). n.signatures) e;
  made = record { name = next g.names; body = body } ∷ [];
  definitions = ap (λ (n : NameList). n.definitions) e;
  added = [];
  lines = sym (append-nil g.lines);
}

-- names begin with those that were there
pub begins_names : (old new : Ground) → Begins old new → BeginsNames old.names new.names
begins_names old new b = record { constants = b.constants; signatures = b.signatures; definitions = record { more = b.made; all = b.definitions } }

pub begins_lines : (old new : Ground) → Begins old new → Front old.lines new.lines
begins_lines old new b = record { more = b.added; all = b.lines }

-- ---- steps
-- a limit that a step passes is the one that the whole passes; memory says nothing
pub makes_stopped : {A B : Type 0} (m : Maker A) (n : Maker B) (a b old new : Ground) (e : GroundErr)
    → ((l : Which) → m a ≡ Err l → n old ≡ Err l) → Makes m a b (Err e) → Makes n old new (Err e)
makes_stopped m n a b old new (Limit l) f h = f l h
makes_stopped m n a b old new Memory f h = tt

pub makes_memory : {A : Type 0} (m : Maker A) (old new : Ground) (e : GroundErr) → e ≡ Memory → Makes m old new (Err e)
makes_memory m old new e h = subst (λ x. Makes m old new (Err x)) (sym h) tt

-- an error that went through `?`
pub makes_same_err : {A : Type 0} (m : Maker A) (old new : Ground) (r : Result A GroundErr) (e : GroundErr)
    → IsErrAnd r (λ x. x ≡ e) → Makes m old new (Err e) → Makes m old new r
makes_same_err m old new (Ok x) e s h = absurd s
makes_same_err m old new (Err d) e s h = subst (λ x. Makes m old new (Err x)) (sym s) h

-- want of memory that went through `?`
pub makes_same_memory : {A : Type 0} (m : Maker A) (old new : Ground) (r : Result A GroundErr) → IsErrAnd r (λ x. x ≡ Memory) → Makes m old new r
makes_same_memory m old new (Ok x) s = absurd s
makes_same_memory m old new (Err d) s = makes_memory m old new d s

-- a call that makes what another says
pub makes_other : {A : Type 0} (m n : Maker A) (old new : Ground) (r : Result A GroundErr) → n old ≡ m old → Makes m old new r → Makes n old new r
makes_other m n old new (Ok x) e h = e ∙ h
makes_other m n old new (Err (Limit l)) e h = e ∙ h
makes_other m n old new (Err Memory) e h = tt

-- a call that fails first, and one after a call that gave a value
pub makes_first : {A B : Type 0} (m : Maker A) (f : A → Maker B) (old new : Ground) (e : GroundErr) → Makes m old new (Err e) → Makes (λ g. m g then f) old new (Err e)
makes_first m f old new e = makes_stopped m (λ g. m g then f) old new old new e (λ l h. ap (λ z. z then f) h)

pub makes_second : {A B : Type 0} (m : Maker A) (f : A → Maker B) (x : A) (old mid new : Ground) (r : Result B GroundErr)
    → m old ≡ Ok (x, mid) → Makes (f x) mid new r → Makes (λ g. m g then f) old new r
makes_second m f x old mid new (Ok y) e h = ap (λ z. z then f) e ∙ h
makes_second m f x old mid new (Err (Limit l)) e h = ap (λ z. z then f) e ∙ h
makes_second m f x old mid new (Err Memory) e h = tt

-- ---- steps with numbers
-- a computation with numbers that fails first, and what is made after one that gave a value
pub computed_first : {A B : Type 0} (item : ℕ) (wanted : Refusable A) (f : A → Maker B) (g : Ground) (e : GroundErr) (r : Result B GroundErr)
    → Makes (computed item wanted) g g (Err e) → IsErrAnd r (λ x. x ≡ e) → Makes (λ h. computed item wanted h then f) g g r
computed_first item wanted f g e r h s = makes_same_err (λ k. computed item wanted k then f) g g r e s (makes_first (computed item wanted) f g g e h)

pub computed_second : {A B : Type 0} (item : ℕ) (wanted : Refusable A) (f : A → Maker B) (x : A) (g new : Ground) (r : Result B GroundErr)
    → computed item wanted g ≡ Ok (x, g) → Makes (f x) g new r → Makes (λ h. computed item wanted h then f) g new r
computed_second item wanted f x g new r e h = makes_second (computed item wanted) f x g g new r e h
