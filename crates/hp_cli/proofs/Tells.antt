-- What source and sink tell, from part to whole.
use Rattle.std.proofs.Common.{ℕ, List, [], None, Some, IfSome, sym, subst}
use Rattle.std.specs.declared.option.Option.{Option}
use Rattle.std.specs.Io.KnownBytes.{Appends}
use Rattle.std.proofs.KnownBytes.{Appends-nil}
use Rattle.hp_cli.specs.declared.answer.Status.{Status}
use Rattle.hp_cli.specs.declared.answer.Status.TheVariants.{WriteFault, Memory}
use Rattle.hp_cli.specs.Answer.{Answers, Begins, Stands, Told, Wrote, unwritten, wanted, whole}
use Rattle.hp_cli.specs.Transfer.{WritesFront}
use Rattle.hp_cli.proofs.Transfers.{some_left}

pub wrote_nothing : (a : Option (List ℕ)) (P : List ℕ → Type 0) → P [] → Wrote a a P
wrote_nothing a P p = ([], Appends-nil a, p)

-- ---- what stands in the output after a write
module _ (words : List (List ℕ)) (bytes text : List ℕ) (s : Status) (a b : Option (List ℕ)) (answer : Answers words bytes text s) where
  front_begins : (w : WritesFront a b text) → Begins words bytes w.front
  front_begins w = record { rest = w.rest; status = s; answer = subst (λ (t : List ℕ). Answers words bytes t s) w.split answer }

  pub wrote_whole : Appends a b text → Wrote a b (λ out. Stands words bytes out s)
  wrote_whole w = (text, w, whole answer)

  pub wrote_part : WritesFront a b text → Wrote a b (λ out. Stands words bytes out WriteFault)
  wrote_part w = (w.front, w.appended, unwritten (front_begins w))

  pub wrote_as_wanted : WritesFront a b text → Wrote a b (λ out. Stands words bytes out Memory)
  wrote_as_wanted w = (w.front, w.appended, wanted (front_begins w))

-- ---- from the writes to the run
pub told_nothing : (left a : Option (List ℕ)) (P : List ℕ → List ℕ → Type 0) → ((bytes : List ℕ) → P bytes []) → Told left a a P
told_nothing left a P p = let l = some_left left in (l.0, l.1, wrote_nothing a (P l.0) (p l.0))

pub told_any : (left a b : Option (List ℕ)) (P : List ℕ → List ℕ → Type 0) → ((bytes : List ℕ) → Wrote a b (P bytes)) → Told left a b P
told_any left a b P p = let l = some_left left in (l.0, l.1, p l.0)

pub told_map : (left a b : Option (List ℕ)) (P Q : List ℕ → List ℕ → Type 0) → ((bytes out : List ℕ) → P bytes out → Q bytes out) → Told left a b P → Told left a b Q
told_map left a b P Q f t = (t.0, t.1, (t.2.0, t.2.1, f t.0 t.2.0 t.2.2))

-- what is known of every input that may have been left is known of the one that the source tells
pub told_left : (left a b : Option (List ℕ)) (P : List ℕ → List ℕ → Type 0) (Q : List ℕ → Type 0) → ((bytes out : List ℕ) → P bytes out → Q bytes) → Told left a b P → IfSome left Q
told_left None a b P Q f t = tt
told_left (Some x) a b P Q f t = subst Q (sym t.1) (f t.0 t.2.0 t.2.2)
