-- A reader that gives its clauses up to a text comes to what a reader of the whole comes to.
use Rattle.std.proofs.Common.{◌≡◌, ◌≢◌, ℕ, Bool, true, false, List, [], ◌++◌, length, Option, Some, None, Result, Ok, Err, IfOk, IfErr, OnOk, refl, sym, ap, subst, ◌∙◌, append_assoc, append-nil, ◌⊎◌, inl, inr}
use Rattle.std.proofs.lemmas.Grind.{flat_map-append}
use Rattle.std.specs.Prelude.{if◌then◌else◌}
use Rattle.std.specs.Result.{IsErrAnd}
use Rattle.hp_tree.specs.declared.problem.Clause.{Clause}
use Rattle.hp_tree.specs.declared.problem.Problem.{Problem}
use Rattle.hp_ast.specs.Printing.{heading_text, clauses_text, clause_text, problem_text, line}
use Rattle.hp_text.specs.declared.token.Kind.TheVariants as kinds
use Rattle.hp_text.specs.declared.token.Token.{Token as Placed}
use Rattle.hp_text.specs.declared.token.TokenErr.{TokenErr}
use Rattle.hp_text.specs.Tokens.{next_from}
use Rattle.hp_grammar.specs.declared.fault.ReadErr.{ReadErr}
use Rattle.hp_grammar.specs.declared.fault.ReadErr.TheVariants.{Syntax, LongNumeral, Deep, Memory}
use Rattle.hp_grammar.specs.declared.counts.Counts.{Counts}
use Rattle.hp_read.specs.declared.stage.Progress.{Progress}
use Rattle.hp_read.specs.declared.stage.Stage.{Stage}
use Rattle.hp_read.specs.declared.stage.Stage.TheVariants.{Whole}
use Rattle.hp_read.specs.Causes.{StopsAt}
use Rattle.hp_grammar.specs.Spells.{fault_of}
use Rattle.hp_grammar.specs.Counts.{count, nothing_counted}
use Rattle.hp_grammar.specs.Problems.{problem_of}
use Rattle.hp_grammar.specs.Symbols.{symbol_of}
use Rattle.hp_grammar.specs.Spells.{Spells, IsFault}
use Rattle.hp_read.specs.Reading.{IsReading}
use Rattle.hp_grammar.specs.declared.symbol.Symbol.{Symbol as Token}
use Rattle.hp_read.specs.Top.{at, started, top_step, top_end, is_whole}
use Rattle.hp_read.specs.Printed.{SpellsAsPrinted, with_before, resumed, HasClause, IsHeld, HasLines, IsPrinting, Holds, Follows, GivesUp}
use Rattle.hp_read.proofs.Bytes.{reading_starts, reading_goes, misplaced, past_limit, no_token_here, unfinished, spelled}
use Rattle.hp_read.proofs.BytesLaws.{no_fault, one_problem}
use Rattle.hp_read.proofs.Resumed.{over, step_over, kept}

-- ---- the fault of a step

pub fault_at : (bytes : List ℕ) (place : ℕ) (s : Progress) (c : Counts) (t : Placed) (e : ReadErr) → IsReading bytes place s c → next_from bytes place ≡ Ok t → t.kind ≢ kinds.End
    → StopsAt bytes t s c e → IsFault bytes e
fault_at bytes place s c t (Syntax o) h n k g = subst (λ a. IsFault bytes (Syntax a)) (sym g.0) (misplaced bytes place s c t h n k g.1)
fault_at bytes place s c t (LongNumeral o) h n k g = absurd g
fault_at bytes place s c t (Deep o) h n k g = subst (λ a. IsFault bytes (Deep a)) (sym g.0) (past_limit bytes place s g.1.0 c t h n k g.1.1 g.2)
fault_at bytes place s c t Memory h n k g = tt

pub faults_at : {A : Type 0} (bytes : List ℕ) (place : ℕ) (s : Progress) (c : Counts) (t : Placed) (r : Result A ReadErr) → IsReading bytes place s c → next_from bytes place ≡ Ok t → t.kind ≢ kinds.End
    → IfErr r (StopsAt bytes t s c) → IfErr r (IsFault bytes)
faults_at bytes place s c t (Ok a) h n k g = tt
faults_at bytes place s c t (Err e) h n k g = fault_at bytes place s c t e h n k g

pub steps_on : (bytes : List ℕ) (place to : ℕ) (s n : Progress) (c d : Counts) (t : Placed) (r : Result (Unit {0}) ReadErr) → IsReading bytes place s c → next_from bytes place ≡ Ok t → t.kind ≢ kinds.End
    → OnOk r (top_step s (symbol_of bytes t) ≡ Some n) → OnOk r (count c (symbol_of bytes t) ≡ Some d) → OnOk r (to ≡ t.end) → OnOk r (IsReading bytes to n d)
steps_on bytes place to s n c d t (Ok u) h e k g f q = subst (λ a. IsReading bytes a n d) (sym q) (reading_goes bytes place s n c d t h e k g f)
steps_on bytes place to s n c d t (Err x) h e k g f q = tt

-- ---- a state with clauses before

abbrev pub MayResume : List Clause → Progress → Type 0
MayResume cs s = (cs ≡ []) ⊎ IsHeld s

goes_on : (cs : List Clause) (s n : Progress) (t : Token) → MayResume cs s → top_step s t ≡ Some n → top_step (resumed cs s) t ≡ Some (resumed cs n)
goes_on cs s n t (inl e) g = subst (λ ds. top_step (resumed ds s) t ≡ Some (resumed ds n)) (sym e) g
goes_on cs s n t (inr h) g = step_over cs s.made s.stage t h.0 h.1 ∙ ap (over (resumed cs)) g

stops : (cs : List Clause) (s : Progress) (t : Token) → MayResume cs s → top_step s t ≡ None → top_step (resumed cs s) t ≡ None
stops cs s t (inl e) g = subst (λ ds. top_step (resumed ds s) t ≡ None) (sym e) g
stops cs s t (inr h) g = step_over cs s.made s.stage t h.0 h.1 ∙ ap (over (resumed cs)) g

stops_at : (bytes : List ℕ) (cs : List Clause) (s : Progress) (c : Counts) (t : Placed) (e : ReadErr) → MayResume cs s → StopsAt bytes t s c e → StopsAt bytes t (resumed cs s) c e
stops_at bytes cs s c t (Syntax o) m g = (g.0, stops cs s (symbol_of bytes t) m g.1)
stops_at bytes cs s c t (LongNumeral o) m g = g
stops_at bytes cs s c t (Deep o) m g = (g.0, (resumed cs g.1.0, goes_on cs s g.1.0 (symbol_of bytes t) m g.1.1), g.2)
stops_at bytes cs s c t Memory m g = tt

may_resume : {bytes out : List ℕ} {place : ℕ} {s : Progress} {c : Counts} → (h : IsPrinting bytes out place s c) → MayResume h.before s
may_resume h = elim h.holds [
  | inl none ↦ inl none.1
  | inr some ↦ inr some.0
]

-- ---- from token to token

pub printing_starts : (bytes : List ℕ) → IsPrinting bytes [] 0 started nothing_counted
printing_starts bytes = record { before = []; reading = reading_starts bytes; holds = inl (refl, refl) }

pub printing_fails : (bytes out : List ℕ) (place : ℕ) (s : Progress) (c : Counts) (t : Placed) (e : ReadErr) (r : Result (Unit {0}) ReadErr) → IsPrinting bytes out place s c
    → next_from bytes place ≡ Ok t → t.kind ≢ kinds.End → StopsAt bytes t s c e → IsErrAnd r (λ f. f ≡ e) → IfErr r (IsFault bytes)
printing_fails bytes out place s c t e (Ok u) h n k g q = tt
printing_fails bytes out place s c t e (Err f) h n k g q =
    subst (IsFault bytes) (sym q) (fault_at bytes place (resumed h.before s) c t e h.reading n k (stops_at bytes h.before s c t e (may_resume h) g))

lines_stay : (out : List ℕ) (cs : List Clause) (p q : Problem) → q.profile ≡ p.profile → q.decls ≡ p.decls → HasLines out cs p → HasLines out cs q
lines_stay out cs p q e d h = subst (λ n. out ≡ heading_text (problem_of n q.decls q.clauses) ++ clauses_text cs) (sym e)
    (subst (λ ds. out ≡ heading_text (problem_of p.profile ds q.clauses) ++ clauses_text cs) (sym d) h)

pub printing_goes : (bytes out : List ℕ) (place : ℕ) (s n : Progress) (c d : Counts) (t : Placed) → IsPrinting bytes out place s c → next_from bytes place ≡ Ok t → t.kind ≢ kinds.End
    → top_step s (symbol_of bytes t) ≡ Some n → count c (symbol_of bytes t) ≡ Some d → IsPrinting bytes out t.end n d
printing_goes bytes out place s n c d t h e k g f = record {
  before = h.before;
  reading = reading_goes bytes place (resumed h.before s) (resumed h.before n) c d t h.reading e k (goes_on h.before s n (symbol_of bytes t) (may_resume h) g) f;
  holds = elim h.holds [
    | inl none ↦ inl none
    | inr some ↦
        let stays = kept s n (symbol_of bytes t) some.0 g in
        inr (stays.held, lines_stay out h.before s.made n.made stays.profile stays.decls some.1)
  ];
}

pub printing_moves : (bytes out : List ℕ) (place to : ℕ) (s n : Progress) (c d : Counts) (t : Placed) → IsPrinting bytes out place s c → next_from bytes place ≡ Ok t → t.kind ≢ kinds.End
    → top_step s (symbol_of bytes t) ≡ Some n → count c (symbol_of bytes t) ≡ Some d → to ≡ t.end → IsPrinting bytes out to n d
printing_moves bytes out place to s n c d t h e k g f q = subst (λ a. IsPrinting bytes out a n d) (sym q) (printing_goes bytes out place s n c d t h e k g f)

-- ---- clauses are given up

same_resumed : (cs given : List Clause) (s : Progress) (old : Problem) → old.clauses ≡ given ++ s.made.clauses → s.made.profile ≡ old.profile → s.made.decls ≡ old.decls
    → resumed cs (at old s.stage) ≡ resumed (cs ++ given) s
same_resumed cs given s old e p d =
    ap (λ ds. at (problem_of old.profile old.decls ds) s.stage) (ap (λ ds. cs ++ ds) e ∙ sym (append_assoc cs given s.made.clauses))
    ∙ (ap (λ n. at (problem_of n old.decls ((cs ++ given) ++ s.made.clauses)) s.stage) (sym p)
    ∙ ap (λ ds. at (problem_of s.made.profile ds ((cs ++ given) ++ s.made.clauses)) s.stage) (sym d))

holds_of : {bytes out : List ℕ} {place : ℕ} {s : Progress} {c : Counts} → (h : IsPrinting bytes out place s c) → Holds out h.before s.made
holds_of h = elim h.holds [
  | inl none ↦ inl none
  | inr some ↦ inr some.1
]

has_same : (ds es : List Clause) → ds ≡ es → HasClause ds → HasClause es
has_same ds es e h = subst HasClause e h

whole_given : (bytes out after : List ℕ) (place : ℕ) (old new : Problem) (c : Counts) → IsPrinting bytes out place (at old Whole) c → GivesUp out after old new
    → IsPrinting bytes after place (at new Whole) c
whole_given bytes out after place old new c h g = record {
  before = h.before ++ g.given;
  reading = subst (λ s. IsReading bytes place s c) (same_resumed h.before g.given (at new Whole) old g.clauses g.profile g.decls) h.reading;
  holds = elim g.lines [
    | inl none ↦
        let same : h.before ++ g.given ≡ h.before = ap (λ ds. h.before ++ ds) none.0 ∙ append-nil h.before in
        let clauses : old.clauses ≡ new.clauses = g.clauses ∙ ap (λ ds. ds ++ new.clauses) none.0 in
        elim h.holds [
          | inl empty ↦ inl (none.1 ∙ empty.0, same ∙ empty.1)
          | inr some ↦ inr (
            (has_same old.clauses new.clauses clauses some.0.0, tt),
            none.1 ∙ (lines_stay out h.before old new g.profile g.decls some.1 ∙ ap (λ ds. heading_text new ++ clauses_text ds) (sym same)),
          )
        ]
    | inr some ↦ inr ((some.0, tt), some.1 h.before (holds_of h))
  ];
}

pub printing_given : (bytes out after : List ℕ) (place : ℕ) (old new : Problem) (s : Stage) (c : Counts) → IsPrinting bytes out place (at old s) c → s ≡ Whole → GivesUp out after old new
    → IsPrinting bytes after place (at new s) c
printing_given bytes out after place old new s c h e g =
    subst (λ r. IsPrinting bytes after place (at new r) c) (sym e) (whole_given bytes out after place old new c (subst (λ r. IsPrinting bytes out place (at old r) c) e h) g)

-- ---- lines

pub clauses_more : (cs ds : List Clause) → clauses_text (cs ++ ds) ≡ clauses_text cs ++ clauses_text ds
clauses_more cs ds = flat_map-append (λ clause. line (clause_text clause)) cs ds

-- behind lines that are there
pub lines_behind : (out after : List ℕ) (p : Problem) → (out ≡ [] → ⊥) → after ≡ out ++ clauses_text p.clauses → Follows out after p
lines_behind out after p some e cs (inl none) = absurd (some none.0)
lines_behind out after p some e cs (inr lines) =
    e ∙ (ap (λ o. o ++ clauses_text p.clauses) lines ∙ (append_assoc (heading_text p) (clauses_text cs) (clauses_text p.clauses) ∙ ap (λ t. heading_text p ++ t) (sym (clauses_more cs p.clauses))))

-- at the front
not_empty : (p : Problem) (rest : List ℕ) → heading_text p ++ rest ≡ [] → ⊥
not_empty p rest e = absurd (cc)

pub lines_first : (out after : List ℕ) (p : Problem) → out ≡ [] → after ≡ (out ++ heading_text p) ++ clauses_text p.clauses → Follows out after p
lines_first out after p empty e cs (inl none) =
    e ∙ (ap (λ o. (o ++ heading_text p) ++ clauses_text p.clauses) empty ∙ ap (λ ds. heading_text p ++ clauses_text (ds ++ p.clauses)) (sym none.1))
lines_first out after p empty e cs (inr lines) = absurd (not_empty p (clauses_text cs) (sym lines ∙ empty))

-- ---- at the end

some_over : (b : Bool) (cs : List Clause) (m p : Problem) → (if b then Some m else None) ≡ Some p → (if b then Some (with_before cs m) else None) ≡ Some (with_before cs p)
some_over true cs m p e = let same : m ≡ p = cc in ap (λ q. Some (with_before cs q)) same
some_over false cs m p e = absurd (cc)

none_over : (b : Bool) (cs : List Clause) (m : Problem) → ◌≡◌ {A = Option Problem} (if b then Some m else None) None → ◌≡◌ {A = Option Problem} (if b then Some (with_before cs m) else None) None
none_over true cs m e = absurd (cc)
none_over false cs m e = refl

some_is : (b : Bool) (m p : Problem) → (if b then Some m else None) ≡ Some p → m ≡ p
some_is true m p e = cc
some_is false m p e = absurd (cc)

ends_over : (cs : List Clause) (s : Progress) (p : Problem) → top_end s ≡ Some p → top_end (resumed cs s) ≡ Some (with_before cs p)
ends_over cs s p e = some_over (is_whole s.stage) cs s.made p e

ends_none : (cs : List Clause) (s : Progress) → top_end s ≡ None → top_end (resumed cs s) ≡ None
ends_none cs s e = none_over (is_whole s.stage) cs s.made e

holds_at : {bytes out : List ℕ} {place : ℕ} {s : Progress} {c : Counts} → (h : IsPrinting bytes out place s c) → (p : Problem) → top_end s ≡ Some p → Holds out h.before p
holds_at {bytes} {out} {place} {s} {c} h p e = subst (Holds out h.before) (some_is (is_whole s.stage) s.made p e) (holds_of h)

pub no_token_printing : {A : Type 0} (bytes seen out : List ℕ) (place at : ℕ) (s : Progress) (c : Counts) (e : TokenErr) (r : Result A ReadErr) → IsPrinting bytes out place s c
    → seen ≡ bytes → at ≡ place → ◌≡◌ {A = Result Placed TokenErr} (Err e) (next_from seen at) → IsErrAnd r (λ f. f ≡ fault_of e) → IfErr r (IsFault bytes)
no_token_printing bytes seen out place at s c e r h i j k l = no_token_here bytes seen place at (resumed h.before s) c e r h.reading i j k l

pub printed : (bytes out after : List ℕ) (place : ℕ) (s : Progress) (c : Counts) (t : Placed) (p : Problem) → IsPrinting bytes out place s c → next_from bytes place ≡ Ok t → t.kind ≡ kinds.End
    → top_end s ≡ Some p → Follows out after p → SpellsAsPrinted bytes after
printed bytes out after place s c t p h e k g follows = record {
  problem = with_before h.before p;
  spelled = spelled bytes place (resumed h.before s) c t (with_before h.before p) h.reading e k (ends_over h.before s p g);
  printed = follows h.before (holds_at h p g);
}

pub printed_early : (bytes out : List ℕ) (place : ℕ) (s : Progress) (c : Counts) (t : Placed) → IsPrinting bytes out place s c → next_from bytes place ≡ Ok t → t.kind ≡ kinds.End
    → top_end s ≡ None → IsFault bytes (Syntax (length bytes))
printed_early bytes out place s c t h e k g = unfinished bytes place (resumed h.before s) c t h.reading e k (ends_none h.before s g)

-- what the printer answers where the bytes spell a problem
pub printed_only : (bytes : List ℕ) (r : Result (List ℕ) ReadErr) → IfOk r (SpellsAsPrinted bytes) → IfErr r (IsFault bytes) → (p : Problem) → Spells bytes p
    → (r ≡ Ok (problem_text p)) ⊎ (r ≡ Err Memory)
printed_only bytes (Ok text) h k p s = inl (ap (λ t. Ok t) (h.printed ∙ ap problem_text (one_problem bytes h.problem p h.spelled s)))
printed_only bytes (Err e) h k p s = inr (ap (λ z. Err z) (no_fault bytes p e s k))
