-- Lists that grow at their end.
use Rattle.std.proofs.Common.{◌≡◌, List, [], ◌++◌, sym, ap, ◌∙◌, append_assoc, append-nil}
use Rattle.hp_lit.specs.Growing.{Begins}

pub begins_same : {A : Type 0} (old new : List A) → new ≡ old → Begins old new
begins_same old new e = record { more = []; all = e ∙ sym (append-nil old) }

pub begins_more : {A : Type 0} (old more new : List A) → new ≡ old ++ more → Begins old new
begins_more old more new e = record { more = more; all = e }

pub begins_then : {A : Type 0} (old mid new : List A) → Begins old mid → Begins mid new → Begins old new
begins_then {A} old mid new p q = record { more = p.more ++ q.more; all = q.all ∙ ap (λ (xs : List A). xs ++ q.more) p.all ∙ append_assoc old p.more q.more }
