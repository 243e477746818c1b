-- This module defines a text that is being read by lines, a piece at a time.
use Rattle.std.specs.Prelude.{◌≡◌, ◌<◌, ◌≤◌, ◌+◌, ◌-◌, ◌^◌, ℕ, Bool, true, false, List, [], ◌∷◌, ◌++◌, length, take}
use Rattle.std.specs.Prelude.{drop, Option, Result, IsErrOf, is_err}
use Rattle.std.specs.Io.KnownBytes.{Consumes, IsAtEnd}
use Rattle.text_lines.specs.Text.{lines_of}
use Rattle.text_lines.specs.Laws.{HasNo}
use Rattle.game_outside.specs.declared.line_text.LineText.TheInside.{Inside}
use Rattle.game_outside.specs.declared.shelf.Shelf.{Ghosts}
use Rattle.game_outside.specs.declared.shelf.ReadEnd.{ReadEnd}
use Rattle.game_outside.specs.declared.shelf.ReadEnd.TheVariants.{TooLong}
use Rattle.game_outside.specs.Limits.{piece_size}

-- A text that is being read has the bytes that were taken off the shelf and are not given yet, the number of bytes
-- taken and its limit. It is closed if a call was refused, and has ended if the end was met.
pub record TextUnderWay : Type 0 where
  pub held : List ℕ
  pub taken : ℕ
  pub limit : ℕ
  pub closed : Bool
  pub ended : Bool

-- Contracts see a text like this: of the piece that is kept, the bytes from `begin` to `end` are held.
abbrev pub under_way : Inside → TextUnderWay
under_way t = record {
  held = take (t.end - t.begin) (drop t.begin t.piece.items);
  taken = t.taken;
  limit = t.limit;
  closed = t.closed;
  ended = t.ended;
}

-- At most one piece is held, and nothing after the end. As long as no call was refused, the limit is not passed.
pub record IsUnderWay (t : Inside) : Type 0 where
  pub piece : length t.piece.items ≡ piece_size
  pub begins : t.begin ≤ t.end
  pub ends : t.end ≤ piece_size
  -- The limit is below the greatest `u64`, so that a count that passes it still fits.
  pub bounded : t.limit < 2 ^ 64 - 1
  pub within : t.closed ≡ false → t.taken ≤ t.limit
  pub over : t.ended ≡ true → t.begin ≡ t.end

-- A call took these bytes off the shelf. If it met the end of the text, none is left there.
pub record Takes (old new : TextUnderWay) (rest rest' : Option (List ℕ)) (more : List ℕ) : Type 0 where
  pub consumed : Consumes rest rest' more
  pub count : new.taken ≡ old.taken + length more
  pub end : old.ended ≡ false → new.ended ≡ true → IsAtEnd rest'

-- If the text has ended, nothing follows it.
abbrev pub MayFollow : TextUnderWay → List ℕ → Type 0
MayFollow text behind = text.ended ≡ true → behind ≡ []

-- A call gave the next line: whatever follows the bytes that are held, the line is the first line of the bytes that
-- were held and came, and the others follow. At least one byte is given.
pub record GivesLine (old new : TextUnderWay) (rest rest' : Option (List ℕ)) (line : List ℕ) : Type 0 where
  pub going : old.ended ≡ false
  pub more : List ℕ
  pub takes : Takes old new rest rest' more
  pub first : (behind : List ℕ) → MayFollow new behind
      → lines_of ((old.held ++ more) ++ behind) ≡ line ∷ lines_of (new.held ++ behind)
  pub further : old.taken + length new.held < new.taken + length old.held

-- A call met the end of the text: nothing was held, and nothing came.
pub record MeetsEnd (old new : TextUnderWay) (rest rest' : Option (List ℕ)) (line : List ℕ) : Type 0 where
  pub takes : Takes old new rest rest' []
  pub held : old.held ≡ []
  pub none : new.held ≡ []
  pub ended : new.ended ≡ true
  pub empty : line ≡ []

-- A call took what was left of the text, and dropped it.
pub record Drops (old new : TextUnderWay) (rest rest' : Option (List ℕ)) : Type 0 where
  pub more : List ℕ
  pub takes : Takes old new rest rest' more
  pub ended : new.ended ≡ true

-- More bytes came than the limit allows.
pub record PassesLimit (old : TextUnderWay) (rest rest' : Option (List ℕ)) : Type 0 where
  pub more : List ℕ
  pub consumed : Consumes rest rest' more
  pub over : old.limit < old.taken + length more

-- A call leaves a text like this if its bytes come from this shelf.
pub record LeavesText {S X : Type 0} (shelf : Ghosts S) (text text' : TextUnderWay) (old new : S)
    (result : Result X ReadEnd) : Type 0 where
  -- The number taken is the shelf's, the limit does not change, and a refusal closes the text.
  pub taken_is : text'.taken ≡ shelf.taken new
  pub limit : text'.limit ≡ text.limit
  pub closed : text'.closed ≡ is_err result
  -- After the end nothing is asked of the shelf.
  pub ended : text.ended ≡ true → new ≡ old
  -- A text is too long only if more bytes came than the limit allows.
  pub too_long : IsErrOf result TooLong → PassesLimit text (shelf.rest old) (shelf.rest new)

-- This says whether there is a piece. If not, nothing is held and the text is at its end.
abbrev pub HoldsPiece : Bool → TextUnderWay → Type 0
HoldsPiece true text = (0 < length text.held) × (text.ended ≡ false)
HoldsPiece false text = (text.held ≡ []) × (text.ended ≡ true)

-- Between two pieces the number taken is the shelf's, the text is open, and the limit is not passed.
pub record CountsOn (old now : TextUnderWay) (taken : ℕ) : Type 0 where
  pub taken_is : now.taken ≡ taken
  pub within : taken ≤ old.limit
  pub limit : now.limit ≡ old.limit
  pub closed : now.closed ≡ false

-- The bytes that were held before the first LF are appended to a line, and what follows the LF is held.
pub record IsCut (line line' held held' : List ℕ) : Type 0 where
  pub front : List ℕ
  pub no_lf : HasNo 10 front
  pub parts : held ≡ front ++ 10 ∷ held'
  pub grown : line' ≡ line ++ front

-- No LF was held, and all bytes are appended to the line.
pub record IsUncut (line line' held held' : List ℕ) : Type 0 where
  pub no_lf : HasNo 10 held
  pub grown : line' ≡ line ++ held
  pub none : held' ≡ []

-- A line is not complete yet. The bytes that were held and those that came are the line so far, which has no LF, and
-- then the bytes that are held now.
pub record IsOnTheWay (old now : TextUnderWay) (rest rest' : Option (List ℕ)) (line : List ℕ) : Type 0 where
  pub more : List ℕ
  pub takes : Takes old now rest rest' more
  pub parts : old.held ++ more ≡ line ++ now.held
  pub no_lf : HasNo 10 line
