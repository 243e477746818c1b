-- The lines that are said of a text are those that it denotes, and so are the rewards.
use Rattle.std.proofs.Common.{◌≡◌, ◌∙◌, ◌≤◌, ◌<◌, ◌+◌, inl, inr, ℕ, List, [], ◌∷◌, ◌++◌, refl, ap, sym, subst}
use Rattle.std.proofs.Common.{true, false, cond, Option, Some, None, Result, Ok, Err, length, arith, append_assoc}
use Rattle.std.proofs.Common.{length-append, get_or}
use Rattle.std.specs.Prelude.{◌==◌, ◌&&◌, nat_lt, is_some, unwrap_or, All}
use Rattle.std.proofs.lemmas.Bool.{cases_Bool, eqb-true, and_parts, lt-ltb, le-ltb, ltb-false, ltb-true, true≢false}
use Rattle.std.proofs.lemmas.Bool.Decides.{nat_tests}
use Rattle.std.proofs.lemmas.List.{append-nil, get_or_append_left}
use Rattle.std.proofs.lemmas.List.Elements.{All-nil, All-cons, All-head, All-tail}
use Rattle.std.proofs.lemmas.List.Quantifiers.{all_pairs_push}
use Rattle.std.proofs.Math.Seq.{get_or-append_seam}
use Rattle.text_lines.specs.Text.{lines_of, fields_of, significant}
use Rattle.fractions.specs.Fraction.{Fraction}
use Rattle.numerals.proofs.Grammar.{chosen}
use Rattle.game_model.specs.Game.{Distribution}
use Rattle.rewards_reader.specs.declared.fault.RewardsCause.{RewardsCause}
use Rattle.rewards_reader.specs.declared.fault.RewardsCause.TheVariants.{DoubleLine, LineCount}
use Rattle.rewards_reader.specs.declared.fault.RewardsFault.{RewardsFault}
use Rattle.rewards_reader.specs.declared.line.RewardLine.{RewardLine}
use Rattle.rewards_reader.specs.Amounts.{no_reward}
use Rattle.rewards_reader.specs.Denotes.{IsHeader, AreLines, IsNotAbout, AreSingle, DenotesLines, DenotesRewards}
use Rattle.rewards_reader.specs.Lines.{is_about, same_choice, reward_at, single_line, next_line, line_said, header_said}
use Rattle.rewards_reader.specs.Rewards.{reward_of, reward_in, HasRewards, GivesRewards}
use Rattle.rewards_reader.specs.Texts.{fault_at, then_at, lines_from, said_by_lines, lines_said}
use Rattle.rewards_reader.proofs.LineLaws.{header-found, header-again, line-found, line-again}
use Rattle.rewards_reader.proofs.Places.{same_choice-true}

-- 1. Lines about a state or choice.

about-test : (line : RewardLine) (s : ℕ) (c : Option ℕ) → line.state ≡ s → line.choice ≡ c
    → is_about s c line ≡ true
about-test line s c states choices =
    let first : (line.state == s) ≡ true = grind (arith, nat_tests, states) in
    ap (λ b. b && same_choice line.choice c) first ∙ ap (λ d. same_choice line.choice d) (sym choices)
    ∙ same-itself line.choice
  where
    same-itself : (d : Option ℕ) → same_choice d d ≡ true
    same-itself None = refl
    same-itself (Some k) = grind (arith, nat_tests)

not-about-test : (line : RewardLine) (s : ℕ) (c : Option ℕ) → (line.state ≡ s → line.choice ≡ c → ⊥)
    → is_about s c line ≡ false
not-about-test line s c apart =
    elim (cases_Bool (is_about s c line)) [
      | inr f ↦ f
      | inl t ↦
          let parts = and_parts (line.state == s) (same_choice line.choice c) t in
          absurd (apart (eqb-true line.state s parts.0) (same_choice-true line.choice c parts.1))
    ]

reward_at-none : (lines : List RewardLine) (s : ℕ) (c : Option ℕ) → All (IsNotAbout s c) lines
    → reward_at lines s c ≡ None
reward_at-none [] s c apart = refl
reward_at-none (line ∷ lines) s c apart =
    ap (λ b. cond b (Some line.reward) (reward_at lines s c))
    (not-about-test line s c (All-head (IsNotAbout s c) line lines apart))
    ∙ reward_at-none lines s c (All-tail (IsNotAbout s c) line lines apart)

not-about-from : (lines : List RewardLine) (s : ℕ) (c : Option ℕ) → is_some (reward_at lines s c) ≡ false
    → All (IsNotAbout s c) lines
not-about-from [] s c none = All-nil (IsNotAbout s c)
not-about-from (line ∷ lines) s c none =
    elim (cases_Bool (is_about s c line)) [
      | inl t ↦
          let had : is_some (reward_at (line ∷ lines) s c) ≡ true =
          ap (λ b. is_some (cond b (Some line.reward) (reward_at lines s c))) t in cc (had, none)
      | inr f ↦
          let rest : is_some (reward_at lines s c) ≡ false =
          sym (ap (λ b. is_some (cond b (Some line.reward) (reward_at lines s c))) f) ∙ none in
          All-cons (IsNotAbout s c) line lines
          (λ states choices. true≢false (sym (about-test line s c states choices) ∙ f)) (not-about-from lines s c rest)
    ]

single-before : (before : List RewardLine) (line : RewardLine) (more : List RewardLine)
    → AreSingle (before ++ line ∷ more) → All (IsNotAbout line.state line.choice) before
single-before before line more single = λ k d l.
    let P : RewardLine → Type 0 =
    λ first. IsNotAbout (get_or (before ++ line ∷ more) (length before) d).state
    (get_or (before ++ line ∷ more) (length before) d).choice first in
    let Q : RewardLine → Type 0 = λ last. IsNotAbout last.state last.choice (get_or before k d) in
    subst Q (get_or-append_seam before line more d)
    (subst P (get_or_append_left before (line ∷ more) d k l)
    (single k (length before) d l (omega (arith, length-append before (line ∷ more)))))

-- 2. What is said of the lines.

record Then {X Y : Type 0} (said : Result X RewardsCause) (next : X → Result Y RewardsFault) (y : Y) : Type 0 where
  pub first : X
  pub is : said ≡ Ok first
  pub behind : next first ≡ Ok y

then-found : {X Y : Type 0} (number : ℕ) (said : Result X RewardsCause) (next : X → Result Y RewardsFault) (y : Y)
    → then_at number said next ≡ Ok y → Then said next y
then-found number (Ok x) next y is = record { first = x; is = refl; behind = is }
then-found number (Err cause) next y is = cc

record IsNext (game : List (List Distribution)) (stated : ℕ) (before : List RewardLine) (fields : List (List ℕ))
    (line : RewardLine) : Type 0 where
  pub room : length before < stated
  pub said : line_said game fields ≡ Ok line
  pub free : is_some (reward_at before line.state line.choice) ≡ false

record IsFree (before : List RewardLine) (said : Result RewardLine RewardsCause) (line : RewardLine) : Type 0 where
  pub said_is : said ≡ Ok line
  pub free : is_some (reward_at before line.state line.choice) ≡ false

single-found : (before : List RewardLine) (said : Result RewardLine RewardsCause) (line : RewardLine)
    → single_line before said ≡ Ok line → IsFree before said line
single-found before (Err cause) line is = cc
single-found before (Ok next) line is =
    elim (chosen (is_some (reward_at before next.state next.choice)) (Err DoubleLine) (Ok next) (Ok line) is) [
      | inl t ↦ cc t.1
      | inr t ↦
          let P : RewardLine → Type 0 = λ l. IsFree before (Ok next) l in
          subst P (same-line next line t.1) (record { said_is = refl; free = t.0 })
    ]
  where
    same-line : (a b : RewardLine) → ◌≡◌ {A = Result RewardLine RewardsCause} (Ok a) (Ok b) → a ≡ b
    same-line a b e = cc

next-found : (game : List (List Distribution)) (stated : ℕ) (before : List RewardLine) (fields : List (List ℕ))
    (line : RewardLine) → next_line game stated before fields ≡ Ok line → IsNext game stated before fields line
next-found game stated before fields line is =
    elim (chosen (nat_lt (length before) stated) (single_line before (line_said game fields))
    (Err (LineCount (stated + 1) stated)) (Ok line) is) [
      | inr t ↦ cc t.1
      | inl t ↦
          let found = single-found before (line_said game fields) line t.1 in
          record { room = ltb-true (length before) stated t.0; said = found.said_is; free = found.free }
    ]

next-again : (game : List (List Distribution)) (stated : ℕ) (before : List RewardLine) (fields : List (List ℕ))
    (line : RewardLine) → IsNext game stated before fields line → next_line game stated before fields ≡ Ok line
next-again game stated before fields line h =
    ap (λ b. cond b (single_line before (line_said game fields)) (Err (LineCount (stated + 1) stated)))
    (lt-ltb (length before) stated h.room)
    ∙ ap (λ r. single_line before r) h.said
    ∙ ap (λ b. cond b (Err DoubleLine) (Ok line)) h.free

-- the lines behind others, which the text says
record IsFrom (game : List (List Distribution)) (stated : ℕ) (before : List RewardLine) (others : List (List ℕ))
    (lines : List RewardLine) : Type 0 where
  pub more : List RewardLine
  pub whole : lines ≡ before ++ more
  pub are_lines : AreLines game others more
  pub single : AreSingle lines
  pub count : length lines ≡ stated

from-found : (game : List (List Distribution)) (stated : ℕ) (before : List RewardLine) (number : ℕ)
    (others : List (List ℕ)) (lines : List RewardLine) → AreSingle before → length before ≤ stated
    → lines_from game stated before number others ≡ Ok lines → IsFrom game stated before others lines
from-found game stated before number [] lines single room is =
    elim (chosen (nat_lt (length before) stated) (Err (fault_at 0 (LineCount (length before) stated))) (Ok before)
    (Ok lines) is) [
      | inl t ↦ cc t.1
      | inr t ↦
          let P : List RewardLine → Type 0 = λ ls. IsFrom game stated before [] ls in
          subst P (same-lines before lines t.1) (record {
            more = [];
            whole = sym (append-nil before);
            are_lines = tt;
            single = single;
            count = omega (arith, room, ltb-false (length before) stated t.0);
          })
    ]
  where
    same-lines : (a b : List RewardLine) → ◌≡◌ {A = Result (List RewardLine) RewardsFault} (Ok a) (Ok b) → a ≡ b
    same-lines a b e = cc
from-found game stated before number (bytes ∷ others) lines single room is =
    let step = then-found number (next_line game stated before (fields_of bytes))
    (λ next. lines_from game stated (before ++ next ∷ []) (number + 1) others) lines is in
    let next = next-found game stated before (fields_of bytes) step.first step.is in
    let rest = from-found game stated (before ++ step.first ∷ []) (number + 1) others lines
    (all_pairs_push (λ line other. IsNotAbout other.state other.choice line) before step.first single
    (not-about-from before step.first.state step.first.choice next.free))
    (omega (arith, length-append before (step.first ∷ []), next.room)) step.behind in
    record {
      more = step.first ∷ rest.more;
      whole = rest.whole ∙ append_assoc before (step.first ∷ []) rest.more;
      are_lines = (line-found game (fields_of bytes) step.first next.said, rest.are_lines);
      single = rest.single;
      count = rest.count;
    }

from-again : (game : List (List Distribution)) (stated : ℕ) (before : List RewardLine) (number : ℕ)
    (others : List (List ℕ)) (more : List RewardLine) → AreLines game others more → AreSingle (before ++ more)
    → length before + length more ≡ stated → lines_from game stated before number others ≡ Ok (before ++ more)
from-again game stated before number [] [] are single count =
    ap (λ b. cond b (Err (fault_at 0 (LineCount (length before) stated))) (Ok before))
    (le-ltb (length before) stated (omega (arith, count)))
    ∙ ap (λ (ls : List RewardLine). Ok ls) (sym (append-nil before))
from-again game stated before number [] (line ∷ more) are single count = absurd are
from-again game stated before number (bytes ∷ others) [] are single count = absurd are
from-again game stated before number (bytes ∷ others) (line ∷ more) are single count =
    let free = ap (λ r. is_some r) (reward_at-none before line.state line.choice
    (single-before before line more single)) in
    let next = next-again game stated before (fields_of bytes) line (record {
      room = omega (arith, count);
      said = line-again game (fields_of bytes) line are.0;
      free = free;
    }) in
    let P : List RewardLine → Type 0 = λ ls. AreSingle ls in
    let whole : (before ++ line ∷ []) ++ more ≡ before ++ line ∷ more = append_assoc before (line ∷ []) more in
    ap (λ r. then_at number r (λ n. lines_from game stated (before ++ n ∷ []) (number + 1) others)) next
    ∙ from-again game stated (before ++ line ∷ []) (number + 1) others more are.1 (subst P (sym whole) single)
    (omega (arith, length-append before (line ∷ []), count))
    ∙ ap (λ (ls : List RewardLine). Ok ls) whole

-- 3. What is said of a text.

by-lines : (game : List (List Distribution)) (text : List ℕ) (counted : List (List ℕ)) (lines : List RewardLine)
    → significant (lines_of text) ≡ counted → said_by_lines game counted ≡ Ok lines → DenotesLines game text lines
by-lines game text [] lines parts is = cc
by-lines game text (header ∷ others) lines parts is =
    let step = then-found 1 (header_said game (fields_of header))
    (λ stated. lines_from game stated [] 2 others) lines is in
    let rest = from-found game step.first [] 2 others lines
    (λ i j d less inside. absurd (omega (arith, inside))) (omega arith) step.behind in
    let P : ℕ → Type 0 = λ n. IsHeader game (fields_of header) n in
    let Q : List RewardLine → Type 0 = λ ls. AreLines game others ls in
    record {
      header = header;
      others = others;
      parts = parts;
      is_header = subst P (sym rest.count) (header-found game (fields_of header) step.first step.is);
      are_lines = subst Q (sym rest.whole) rest.are_lines;
      single = rest.single;
    }

pub lines-found : (game : List (List Distribution)) (text : List ℕ) (lines : List RewardLine)
    → lines_said game text ≡ Ok lines → DenotesLines game text lines
lines-found game text lines is = by-lines game text (significant (lines_of text)) lines refl is

pub lines-again : (game : List (List Distribution)) (text : List ℕ) (lines : List RewardLine)
    → DenotesLines game text lines → lines_said game text ≡ Ok lines
lines-again game text lines h =
    ap (λ ls. said_by_lines game ls) h.parts
    ∙ ap (λ r. then_at 1 r (λ stated. lines_from game stated [] 2 h.others))
    (header-again game (fields_of h.header) (length lines) h.is_header)
    ∙ from-again game (length lines) [] 2 h.others lines h.are_lines h.single (omega arith)

-- 4. Rewards.

-- the reward of a line is the one at its state or choice
reward_of-first : (line : RewardLine) (lines : List RewardLine)
    → reward_of (line ∷ lines) line.state line.choice ≡ line.reward
reward_of-first line lines =
    ap (λ b. unwrap_or (cond b (Some line.reward) (reward_at lines line.state line.choice)) no_reward)
    (about-test line line.state line.choice refl refl)

reward_of-later : (first : RewardLine) (lines : List RewardLine) (s : ℕ) (c : Option ℕ)
    → (first.state ≡ s → first.choice ≡ c → ⊥) → reward_of (first ∷ lines) s c ≡ reward_of lines s c
reward_of-later first lines s c apart =
    ap (λ b. unwrap_or (cond b (Some first.reward) (reward_at lines s c)) no_reward) (not-about-test first s c apart)

-- the table has the reward of the line
abbrev IsPaid : List (List Distribution) → List (Option Fraction) → RewardLine → Type 0
IsPaid game table line = reward_in game table line.state line.choice ≡ line.reward

-- a table that has the rewards of single lines pays each of them
paid-from : (game : List (List Distribution)) (table : List (Option Fraction)) (before lines : List RewardLine)
    (others : List (List ℕ)) → AreLines game others lines → AreSingle (before ++ lines)
    → HasRewards game (before ++ lines) table → All (IsPaid game table) lines
paid-from game table before [] others are single has = All-nil (IsPaid game table)
paid-from game table before (line ∷ lines) [] are single has = absurd are
paid-from game table before (line ∷ lines) (bytes ∷ others) are single has =
    let P : List RewardLine → Type 0 = λ ls. AreSingle ls × HasRewards game ls table in
    let whole : (before ++ line ∷ []) ++ lines ≡ before ++ line ∷ lines = append_assoc before (line ∷ []) lines in
    let both : AreSingle ((before ++ line ∷ []) ++ lines) × HasRewards game ((before ++ line ∷ []) ++ lines) table =
    subst P (sym whole) (single, has) in
    All-cons (IsPaid game table) line lines
    (has.each line.state line.choice are.0.of_game ∙ at before (single-before before line lines single))
    (paid-from game table (before ++ line ∷ []) lines others are.1 both.0 both.1)
  where
    at : (front : List RewardLine) → All (IsNotAbout line.state line.choice) front
        → reward_of (front ++ line ∷ lines) line.state line.choice ≡ line.reward
    at [] apart = reward_of-first line lines
    at (first ∷ front) apart =
        reward_of-later first (front ++ line ∷ lines) line.state line.choice
        (All-head (IsNotAbout line.state line.choice) first front apart)
        ∙ at front (All-tail (IsNotAbout line.state line.choice) first front apart)

-- and a table that pays them, and nothing else, has their rewards
rewards-from : (game : List (List Distribution)) (table : List (Option Fraction)) (s : ℕ) (c : Option ℕ)
    (lines : List RewardLine) → All (IsPaid game table) lines
    → (All (IsNotAbout s c) lines → reward_in game table s c ≡ no_reward)
    → reward_in game table s c ≡ reward_of lines s c
rewards-from game table s c [] paid others = others (All-nil (IsNotAbout s c))
rewards-from game table s c (line ∷ lines) paid others =
    elim (cases_Bool (is_about s c line)) [
      | inl t ↦
          let parts = and_parts (line.state == s) (same_choice line.choice c) t in
          ap (λ n. reward_in game table n c) (sym (eqb-true line.state s parts.0))
          ∙ ap (λ d. reward_in game table line.state d) (sym (same_choice-true line.choice c parts.1))
          ∙ All-head (IsPaid game table) line lines paid
          ∙ sym (ap (λ b. unwrap_or (cond b (Some line.reward) (reward_at lines s c)) no_reward) t)
      | inr f ↦
          rewards-from game table s c lines (All-tail (IsPaid game table) line lines paid)
          (λ rest. others (All-cons (IsNotAbout s c) line lines
          (λ states choices. true≢false (sym (about-test line s c states choices) ∙ f)) rest))
          ∙ sym (ap (λ b. unwrap_or (cond b (Some line.reward) (reward_at lines s c)) no_reward) f)
    ]

pub rewards-found : (game : List (List Distribution)) (text : List ℕ) (table : List (Option Fraction))
    → GivesRewards game (lines_said game text) table → DenotesRewards game text table
rewards-found game text table h =
    let denoted = lines-found game text h.lines h.is_said in
    record {
      lines = h.lines;
      denoted = denoted;
      paid = paid-from game table [] h.lines denoted.others denoted.are_lines denoted.single h.rewards;
      others = λ s c inside apart. h.rewards.each s c inside
          ∙ ap (λ o. unwrap_or o no_reward) (reward_at-none h.lines s c apart);
    }

pub rewards-again : (game : List (List Distribution)) (text : List ℕ) (table : List (Option Fraction))
    → DenotesRewards game text table → GivesRewards game (lines_said game text) table
rewards-again game text table h = record {
  lines = h.lines;
  is_said = lines-again game text h.lines h.denoted;
  rewards = record {
    each = λ s c inside. rewards-from game table s c h.lines h.paid (λ apart. h.others s c inside apart);
  };
}
