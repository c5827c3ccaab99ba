-- Lists of tokens that are tokens, and texts that are joined by a sign.
use Rattle.std.proofs.Common.{◌≡◌, ℕ, List, [], ◌∷◌, ◌++◌, map, refl, ap}
use Rattle.std.specs.List.{flat_map, join_by}
use Rattle.std.proofs.lemmas.List.Folds.{flat_map-map}
use Rattle.hp_text.specs.declared.token.Kind.{Kind}
use Rattle.hp_grammar.specs.Token.{AreTokens}
use Rattle.hp_grammar.specs.declared.symbol.Symbol.{Symbol as Token}
use Rattle.hp_grammar.specs.declared.symbol.Symbol.TheVariants.{Word as word}
use Rattle.hp_roundtrip.proofs.Pieces.{IsSign, IsPiece, IsTail, piece_tail, sign_piece, tail_tail, no_tail}

pub tokens_front : (ts us : List Token) → AreTokens (ts ++ us) → AreTokens ts
tokens_front [] us a = tt
tokens_front (t ∷ ts) us a = (a.0, tokens_front ts us a.1)

pub tokens_back : (ts us : List Token) → AreTokens (ts ++ us) → AreTokens us
tokens_back [] us a = a
tokens_back (t ∷ ts) us a = tokens_back ts us a.1

-- pieces that are made first are joined alike
pub join_by-map : {X Y A : Type 0} (f : Y → List A) (g : X → Y) (sep : List A) (xs : List X) → join_by f sep (map g xs) ≡ join_by (λ x. f (g x)) sep xs
join_by-map f g sep [] = refl
join_by-map f g sep (x ∷ xs) = ap (λ z. f (g x) ++ z) (flat_map-map (λ y. sep ++ f y) g xs)

module _ {X : Type 0} (f : X → List ℕ) (g : X → List Token) (sep : List ℕ) (k : Kind) (between : IsSign sep (word k ∷ [])) (each : (x : X) → AreTokens (g x) → IsPiece (f x) (g x)) where
  others : (xs : List X) → AreTokens (flat_map (λ y. word k ∷ g y) xs) → IsTail (flat_map (λ y. sep ++ f y) xs) (flat_map (λ y. word k ∷ g y) xs)
  others [] a = no_tail
  others (x ∷ xs) a =
      let front = tokens_front (g x) (flat_map (λ y. word k ∷ g y) xs) a.1 in
      let back = tokens_back (g x) (flat_map (λ y. word k ∷ g y) xs) a.1 in
      tail_tail (sign_piece between (each x front)) (others xs back)

  -- joined texts are the tokens of each, joined
  pub joined_pieces : (xs : List X) → AreTokens (join_by g (word k ∷ []) xs) → IsPiece (join_by f sep xs) (join_by g (word k ∷ []) xs)
  joined_pieces [] a = record { cuts = λ rest h. refl }
  joined_pieces (x ∷ xs) a =
      piece_tail (each x (tokens_front (g x) (flat_map (λ y. word k ∷ g y) xs) a)) (others xs (tokens_back (g x) (flat_map (λ y. word k ∷ g y) xs) a))
