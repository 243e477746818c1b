-- These definitions say what a place in a text leads to.
use Rattle.std.specs.Prelude.{◌≡◌, ◌<◌, ◌≤◌, ℕ}
use Rattle.formula_tokens.specs.declared.front.Front.{Front}
use Rattle.formula_tokens.specs.declared.front.Front.TheVariants.{Blank, Spelling, Unclosed, Strange}
use Rattle.formula_tokens.specs.declared.cursor.Cursor.{Cursor}
use Rattle.formula_tokens.specs.declared.tokens.Token.{Token as Cut}
use Rattle.formula_tokens.specs.declared.tokens.Lead.{Lead}
use Rattle.formula_tokens.specs.declared.tokens.Lead.TheVariants.{Token as Next, Finish as Ended, Broken as Stopped}
use Rattle.formula_tokens.specs.Tokens.{Tokens, Finish, Broken, Then, Token, tokens_from}

-- These are the tokens from the cursor on.
abbrev pub tokens_at : Cursor → Tokens
tokens_at c = tokens_from c.place 0 c.rest.now

-- A contract sees of a token in memory its place, its spelling, and the tokens behind it.
abbrev pub token_of : Cut → Token
token_of t = record { place = t.place; spelling = t.spelling.now; after = tokens_at t.after }

-- The tokens begin with this: a token and those behind it, the end of the text, or bytes that form none.
abbrev pub Leads : Tokens → Lead → Type 0
Leads ts (Next t) = ts ≡ Then t.place t.spelling.now (tokens_at t.after)
Leads ts (Ended place) = ts ≡ Finish place
Leads ts (Stopped fault) = ts ≡ Broken fault

-- This is what was read, seen by `view`, and the tokens behind it.
abbrev pub read_at : {X Y : Type 0} → (X → Y) → X × Cursor → Y × Tokens
read_at view read = (view read.0, tokens_at read.1)

-- A token at the front has at least one byte, and at most this many.
abbrev pub Fits : Front → ℕ → Type 0
Fits (Spelling count) most = (0 < count) × (count ≤ most)
Fits Blank most = Unit {0}
Fits Unclosed most = Unit {0}
Fits Strange most = Unit {0}
