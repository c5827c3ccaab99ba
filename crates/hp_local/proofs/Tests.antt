-- Tests joined by and, or, not.
use Rattle.std.proofs.Common.{◌≡◌, ◌⊎◌, inl, inr, Bool, true, false, ◌&&◌, ◌||◌, not, IsTrue, refl}

pub both : (a b : Bool) → IsTrue (a && b) → IsTrue a × IsTrue b
both true b h = (refl, h)
both false b h = cc

pub and_true : (a b : Bool) → IsTrue a → IsTrue b → IsTrue (a && b)
and_true true b h k = k
and_true false b h k = cc

pub either : (a b : Bool) → IsTrue (a || b) → IsTrue a ⊎ IsTrue b
either true b h = inl refl
either false b h = inr h

pub neither : (a b : Bool) → (a || b) ≡ false → (a ≡ false) × (b ≡ false)
neither true b h = cc
neither false b h = (refl, h)

-- a guard and what it guards
pub guarded : (a b : Bool) → (a ≡ true → b ≡ true) → (not a || b) ≡ true
guarded true b h = h refl
guarded false b h = refl

pub implied : (a b : Bool) → IsTrue (not a || b) → a ≡ true → b ≡ true
implied true b h e = h
implied false b h e = cc
