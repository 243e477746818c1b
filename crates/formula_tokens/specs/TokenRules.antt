-- Rules say which bytes spell a token, and how a text is cut into tokens.
use Rattle.std.specs.Prelude.{◌≡◌, ◌<◌, ◌≤◌, ◌&&◌, ◌==◌, ℕ, Bool, true, not, List, [], ◌∷◌, ◌++◌, length}
use Rattle.std.specs.List.{list_all}
use Rattle.text_lines.specs.Text.{is_digit}
use Rattle.formula_tokens.specs.Limits.{longest_name}
use Rattle.formula_tokens.specs.Tokens.{begins_word, in_word, in_number, in_name, is_long_sign, is_short_sign, is_blank}

-- Each byte continues the number of the byte before it.
abbrev pub go_on_number : ℕ → List ℕ → Bool
go_on_number before [] = true
go_on_number before (b ∷ bytes) = in_number before b && go_on_number b bytes

-- The byte may be between two `"`.
abbrev pub is_name_byte : ℕ → Bool
is_name_byte b = in_name b && not (b == 34)

-- The name may be between two `"`.
pub record IsName (name : List ℕ) : Type 0 where
  pub bytes : list_all is_name_byte name ≡ true
  pub some : 0 < length name
  pub short : length name ≤ longest_name

-- The bytes spell a word, a number, a quoted name, or a sign of two bytes or one.
pub data IsSpelling : List ℕ → Type 0 where
  word : (b : ℕ) (bytes : List ℕ) → begins_word b ≡ true → list_all in_word bytes ≡ true → IsSpelling (b ∷ bytes)
  number : (b : ℕ) (bytes : List ℕ) → is_digit b ≡ true → go_on_number b bytes ≡ true → IsSpelling (b ∷ bytes)
  quoted_name : (name : List ℕ) → IsName name → IsSpelling (34 ∷ (name ++ 34 ∷ []))
  long_sign : (b c : ℕ) → is_long_sign b c ≡ true → IsSpelling (b ∷ c ∷ [])
  short_sign : (b : ℕ) → is_short_sign b ≡ true → IsSpelling (b ∷ [])

-- These bytes before `rest` are a spelling, and no longer front of both is one.
pub record IsLongest (spelling rest : List ℕ) : Type 0 where
  pub is : IsSpelling spelling
  pub longest : (other behind : List ℕ) → spelling ++ rest ≡ other ++ behind → IsSpelling other
      → length other ≤ length spelling

-- The text is cut into tokens and blanks from its front on, and each token is as long as it can be.
pub data AreCut : List ℕ → List (List ℕ) → Type 0 where
  nothing : AreCut [] []
  blank : (b : ℕ) (rest : List ℕ) (tokens : List (List ℕ)) → is_blank b rest ≡ true → AreCut rest tokens
      → AreCut (b ∷ rest) tokens
  token : (spelling rest : List ℕ) (tokens : List (List ℕ)) → IsLongest spelling rest → AreCut rest tokens
      → AreCut (spelling ++ rest) (spelling ∷ tokens)
