-- A text that is read in part: what is still to be said of its lines decides what is said of the whole.
use Rattle.std.proofs.Common.{◌≡◌, ◌≤◌, inl, inr, ℕ, true, false, List, [], ◌∷◌, ◌++◌, length, Option, Result, Ok, Err}
use Rattle.std.proofs.Common.{IsErr, IsErrAnd, sym, ap, ◌∙◌, refl, subst, arith, append_assoc}
use Rattle.std.proofs.lemmas.Bool.{cases_Bool}
use Rattle.std.proofs.lemmas.List.{append-nil, length-append}
use Rattle.std.specs.Io.KnownBytes.{IsAtEnd}
use Rattle.text_lines.specs.Text.{lines_of}
use Rattle.game_outside.specs.Outside.{Holding, Begins, IsHeldLonger}
use Rattle.game_outside.specs.LineTexts.{TextUnderWay, MayFollow, GivesLine, MeetsEnd, Drops, PassesLimit}
use Rattle.game_outside.specs.declared.file.FileEnd.{FileEnd}
use Rattle.game_outside.specs.declared.shelf.ReadEnd.{ReadEnd}
use Rattle.game_outside.specs.declared.shelf.ReadEnd.TheVariants as read
use Rattle.game_outside.specs.Files.{HeldTextWith, ReadsFile, of_read}
use Rattle.game_outside.proofs.Streams.{IsReadSoFar, begun, read_more, read_whole, longer}
use Rattle.game_outside.proofs.LinesOnTheWay.{consumes_none}

none_left : (bytes : List ℕ) → length bytes ≡ 0 → bytes ≡ []
none_left [] is = refl
none_left (b ∷ bytes) is = absurd (omega (arith, is))

module _ {A : Type 0} (holding : Option Holding) (name : List ℕ) (Whole : List (List ℕ) → A → Type 0) where
  -- these bytes were taken, and what `Still` says of the lines to come, `Whole` says of all
  pub record IsPartRead (rest : Option (List ℕ)) (text : TextUnderWay)
      (Still : List (List ℕ) → A → Type 0) : Type 0 where
    pub bytes : List ℕ
    pub so_far : IsReadSoFar holding name rest bytes
    pub count : text.taken ≡ length bytes
    pub at_end : text.ended ≡ true → IsAtEnd rest
    pub goes_on : (behind : List ℕ) → MayFollow text behind → (answer : A)
        → Still (lines_of (text.held ++ behind)) answer → Whole (lines_of (bytes ++ behind)) answer

  pub begins : (rest : Option (List ℕ)) (text : TextUnderWay) (Still : List (List ℕ) → A → Type 0)
      → Begins holding name rest → text.held ≡ [] → text.taken ≡ 0 → text.ended ≡ false
      → ((lines : List (List ℕ)) (answer : A) → Still lines answer → Whole lines answer) → IsPartRead rest text Still
  begins rest text Still b none taken going same = record {
    bytes = [];
    so_far = begun holding name rest b;
    count = taken;
    at_end = λ over. cc;
    goes_on = λ behind _ answer still.
        same (lines_of behind) answer (subst (λ t. Still (lines_of (t ++ behind)) answer) none still);
  }

  -- a line was given, and more lines were passed on of what is held
  pub lines_read : (rest rest' : Option (List ℕ)) (old mid new : TextUnderWay)
      (Still Still' : List (List ℕ) → A → Type 0) (line : List ℕ)
      → IsPartRead rest old Still → GivesLine old mid rest rest' line → new ≡ record mid { held = new.held }
      → ((behind : List ℕ) (answer : A) → Still' (lines_of (new.held ++ behind)) answer
      → Still (line ∷ lines_of (mid.held ++ behind)) answer) → IsPartRead rest' new Still'
  lines_read rest rest' old mid new Still Still' line part gives same step = record {
    bytes = part.bytes ++ gives.more;
    so_far = read_more holding name rest rest' part.bytes gives.more part.so_far gives.takes.consumed;
    count = omega (arith, part.count, gives.takes.count, ap (λ t. t.taken) same, length-append part.bytes gives.more);
    at_end = λ over. gives.takes.end gives.going (sym (ap (λ t. t.ended) same) ∙ over);
    goes_on = λ behind follows answer still.
        subst (λ t. Whole (lines_of t) answer) (sym (append_assoc part.bytes gives.more behind))
        (part.goes_on (gives.more ++ behind) (λ over. cc) answer
        (subst (λ t. Still (lines_of t) answer) (append_assoc old.held gives.more behind)
        (subst (λ ls. Still ls answer) (sym (gives.first behind (λ over. follows (ap (λ t. t.ended) same ∙ over))))
        (step behind answer still))));
  }

  -- a line was given, and it or a line behind it is refused, whatever follows
  pub refused_part : (rest rest' : Option (List ℕ)) (old mid new : TextUnderWay) (Still : List (List ℕ) → A → Type 0)
      (line given : List ℕ) (refusal : A) → IsPartRead rest old Still → GivesLine old mid rest rest' line
      → new ≡ record mid { held = new.held } → given ≡ line
      → ((behind : List ℕ) → Still (given ∷ lines_of (mid.held ++ behind)) refusal)
      → IsPartRead rest' new (λ _ answer. answer ≡ refusal)
  refused_part rest rest' old mid new Still line given refusal part gives same is refused =
      lines_read rest rest' old mid new Still (λ _ answer. answer ≡ refusal) line part gives same
      (λ behind answer told. subst (λ l. Still (l ∷ lines_of (mid.held ++ behind)) answer) is
      (subst (λ a. Still (given ∷ lines_of (mid.held ++ behind)) a) (sym told) (refused behind)))

  pub all_read : (rest rest' : Option (List ℕ)) (old new : TextUnderWay) (Still : List (List ℕ) → A → Type 0)
      (line : List ℕ) (limit : ℕ) (answer : A) → IsPartRead rest old Still → MeetsEnd old new rest rest' line
      → (old.ended ≡ true → rest' ≡ rest) → old.taken ≤ limit → Still [] answer
      → HeldTextWith holding name limit (λ text. Whole (lines_of text) answer)
  all_read rest rest' old new Still line limit answer part end still_there within still = record {
    text = part.bytes;
    told = read_whole holding name rest rest' part.bytes part.so_far end.takes.consumed
        (elim (cases_Bool old.ended) [
          | inl over ↦ subst (λ t. IsAtEnd t) (sym (still_there over)) (part.at_end over)
          | inr going ↦ end.takes.end going end.ended
        ]);
    within = omega (arith, part.count, within);
    holds = subst (λ t. Whole (lines_of t) answer) (append-nil part.bytes)
        (part.goes_on [] (λ _. refl) answer (subst (λ t. Still (lines_of (t ++ [])) answer) (sym end.held) still));
  }

  pub rest_dropped : (rest rest' : Option (List ℕ)) (old new : TextUnderWay) (Still : List (List ℕ) → A → Type 0)
      (limit : ℕ) (answer : A) → IsPartRead rest old Still → Drops old new rest rest'
      → (old.ended ≡ true → rest' ≡ rest) → (old.ended ≡ true → new.taken ≡ old.taken)
      → new.taken ≤ limit → ((lines : List (List ℕ)) → Still lines answer)
      → HeldTextWith holding name limit (λ text. Whole (lines_of text) answer)
  rest_dropped rest rest' old new Still limit answer part drops still_there none within still = record {
    text = part.bytes ++ drops.more;
    told = read_whole holding name rest' rest' (part.bytes ++ drops.more)
        (read_more holding name rest rest' part.bytes drops.more part.so_far drops.takes.consumed) (consumes_none rest')
        (elim (cases_Bool old.ended) [
          | inl over ↦ subst (λ t. IsAtEnd t) (sym (still_there over)) (part.at_end over)
          | inr going ↦ drops.takes.end going drops.ended
        ]);
    within = omega (arith, part.count, drops.takes.count, length-append part.bytes drops.more, within);
    holds = part.goes_on drops.more
        (λ over. none_left drops.more (omega (arith, none over, drops.takes.count))) answer (still _);
  }

  pub limit_passed : (rest rest' : Option (List ℕ)) (text : TextUnderWay) (Still : List (List ℕ) → A → Type 0)
      (limit : ℕ) → IsPartRead rest text Still → text.limit ≡ limit → PassesLimit text rest rest'
      → IsHeldLonger holding name limit
  limit_passed rest rest' text Still limit part is passes =
      longer holding name rest rest' part.bytes passes.more limit part.so_far passes.consumed
      (omega (arith, part.count, is, passes.over))

-- an end of reading is that of the file
pub ends_so : {X F : Type 0} (Answers : List ℕ → Result X F → Type 0) (holding : Option Holding)
    (name : List ℕ) (limit : ℕ) (end : ReadEnd) (result : Result X (FileEnd F)) → result ≡ Err (of_read end)
    → (end ≡ read.TooLong → IsHeldLonger holding name limit) → ReadsFile Answers holding name limit result
ends_so Answers holding name limit end result is longer =
    subst (λ r. ReadsFile Answers holding name limit r) (sym is) (by end longer)
  where
    by : (end : ReadEnd) → (end ≡ read.TooLong → IsHeldLonger holding name limit)
        → ReadsFile Answers holding name limit (Err (of_read end))
    by read.OutOfMemory longer = tt
    by read.ReadFault longer = tt
    by read.TooLong longer = longer refl

pub err_is : {X E : Type 0} (result : Result X E) (e : E) → IsErr result × IsErrAnd result (λ x. x ≡ e) → result ≡ Err e
err_is (Ok x) e is = cc
err_is (Err x) e is = ap (λ y. Err y) is.1
