-- This module defines the terms of the laws of tokens.
use Rattle.std.specs.Prelude.{◌≡◌, ◌⊎◌, ℕ, List, [], ◌∷◌, Option, Some, None}
use Rattle.formula_tokens.specs.declared.fault.FormulaCause.{FormulaCause}
use Rattle.formula_tokens.specs.Tokens.{Tokens, Finish, Broken, Then}

-- These are all the tokens up to the end of the text.
abbrev pub AreTokens : Tokens → List (List ℕ) → Type 0
AreTokens (Finish place) [] = Unit {0}
AreTokens (Finish place) (t ∷ ts) = ⊥
AreTokens (Broken fault) ts = ⊥
AreTokens (Then place spelling rest) [] = ⊥
AreTokens (Then place spelling rest) (t ∷ ts) = (spelling ≡ t) × AreTokens rest ts

-- These are the spellings of the tokens, up to the end of the text or to bytes that form none.
abbrev pub spellings_of : Tokens → List (List ℕ)
spellings_of (Finish place) = []
spellings_of (Broken fault) = []
spellings_of (Then place spelling rest) = spelling ∷ spellings_of rest

-- This is the cause why the tokens break off before the end of the text, if they do.
abbrev pub cause_of : Tokens → Option FormulaCause
cause_of (Finish place) = None
cause_of (Broken fault) = Some fault.cause
cause_of (Then place spelling rest) = cause_of rest

-- The tokens are the same, wherever they are.
pub record AreAlike (ts us : Tokens) : Type 0 where
  pub spellings : spellings_of ts ≡ spellings_of us
  pub cause : cause_of ts ≡ cause_of us

-- One of the tokens begins at the place.
abbrev pub StandsAt : Tokens → ℕ → Type 0
StandsAt (Finish end) place = ⊥
StandsAt (Broken fault) place = ⊥
StandsAt (Then other spelling rest) place = (other ≡ place) ⊎ StandsAt rest place

-- A blank is a space, a tab, or the end of a line, LF or CRLF.
pub data IsBlank : List ℕ → Type 0 where
  space : IsBlank (32 ∷ [])
  tab : IsBlank (9 ∷ [])
  line_feed : IsBlank (10 ∷ [])
  return_and_line_feed : IsBlank (13 ∷ 10 ∷ [])
