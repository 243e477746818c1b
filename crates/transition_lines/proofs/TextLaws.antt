-- What a text says by cases is what it denotes.
use Rattle.std.proofs.Common.{◌≡◌, ◌∙◌, ◌<◌, ℕ, List, [], ◌∷◌, take, Result, Ok, Err, refl, sym, ap, subst, arith}
use Rattle.std.proofs.Math.Seq.{take-length}
use Rattle.text_lines.specs.Text.{lines_of, fields_of, significant}
use Rattle.game_model.specs.Game.{Distribution, choices_of}
use Rattle.transition_lines.specs.declared.header.Header.{Header}
use Rattle.transition_lines.specs.declared.line.Transition.{Transition}
use Rattle.transition_lines.specs.declared.fault.TraCause.{TraCause}
use Rattle.transition_lines.specs.declared.fault.TraFault.{TraFault}
use Rattle.transition_lines.specs.Lines.{IsHeader, Row, AreRows, header_said, rows_said}
use Rattle.transition_lines.specs.Choices.{choice_end, sum_of_first}
use Rattle.transition_lines.specs.Text.{DenotesGame, transitions, rows_game, behind_header, lines_game, game_of}
use Rattle.transition_lines.proofs.HeaderLaws.{header_found, header_again}
use Rattle.transition_lines.proofs.RowLaws.{NumbersFound, NumbersAgain, Follow, rows_found, rows_again}
use Rattle.transition_lines.proofs.ActionLaws.{action_in, actions_found, actions_again}
use Rattle.transition_lines.proofs.Alike.{sum_alike}
use Rattle.transition_lines.proofs.StateLaws.{ChoicesFound, ChoicesAgain, HaveFractions, fraction_first, MakesGame}
use Rattle.transition_lines.proofs.StateLaws.{state_found, state_again, states_found, states_again, gaps_found}
use Rattle.transition_lines.proofs.StateLaws.{gaps_again}
use Rattle.transition_lines.proofs.StateLaws.{crowds_found, crowds_again, game_found, game_again}

-- the probabilities of rows are fractions
fractions : (header : Header) (lines : List (List ℕ)) (rows : List Row) → AreRows header lines rows
    → HaveFractions (transitions rows)
fractions header [] [] are = λ k d h. absurd (omega (arith, h))
fractions header [] (row ∷ rows) are = absurd are
fractions header (line ∷ lines) [] are = absurd are
fractions header (line ∷ lines) (row ∷ rows) are =
    fraction_first row.transition (transitions rows) are.0.share.fraction (fractions header lines rows are.1)

denoted : ChoicesFound → (text first : List ℕ) (others : List (List ℕ)) (header : Header) (rows : List Row)
    (game : List (List Distribution)) → significant (lines_of text) ≡ first ∷ others → IsHeader first header
    → Follow header [] others rows → MakesGame (transitions rows) header.states header.choices game
    → DenotesGame text game
denoted found text first others header rows game lines is_header follow makes =
    let same : rows ≡ follow.rows = follow.whole in
    let ts : List Transition = transitions follow.rows in
    let Q : List Row → Type 0 = λ rs. MakesGame (transitions rs) header.states header.choices game in
    let is : MakesGame ts header.states header.choices game = subst Q same makes in
    let all = states_found ts header.states game is.said in
    record {
      first = first;
      others = others;
      lines = lines;
      header = header;
      is_header = is_header;
      states = all.0;
      as_stated = omega (arith, follow.size);
      rows = follow.rows;
      are_rows = follow.are;
      action_of = action_in follow.rows;
      actions = actions_found follow.rows follow.fine;
      choice_count = choice_end ts;
      made = λ s h.
          let low : s < header.states = omega (arith, all.0, h) in
          state_found found ts s (choices_of game s) (fractions header others follow.rows follow.are)
          (gaps_found ts header.states is.full s low) (crowds_found ts header.states is.few s low) (all.1 s low);
      all_choices = λ c e. ap (λ n. sum_of_first (choice_end ts) n) all.0 ∙ is.as_stated c e;
    }

-- What is said to be the game is denoted.
pub text_found : NumbersFound → ChoicesFound → (text : List ℕ) (game : List (List Distribution))
    → game_of text ≡ Ok game → DenotesGame text game
unfolding game_of
text_found numbers choices text game e = by_lines (significant (lines_of text)) refl e
  where
    by_rows : (first : List ℕ) (others : List (List ℕ)) (header : Header) (said : Result (List Row) TraFault)
        → significant (lines_of text) ≡ first ∷ others → IsHeader first header → rows_said header 2 [] others ≡ said
        → rows_game header said ≡ Ok game → DenotesGame text game
    by_rows first others header (Err fault) is head given e = cc
    by_rows first others header (Ok rows) is head given e =
        denoted choices text first others header rows game is head
        (rows_found numbers header 2 [] others rows (omega arith) given)
        (game_found (transitions rows) header.states header.choices game e)

    by_header : (first : List ℕ) (others : List (List ℕ)) (said : Result Header TraCause)
        → significant (lines_of text) ≡ first ∷ others → header_said (fields_of first) ≡ said
        → behind_header said others ≡ Ok game → DenotesGame text game
    by_header first others (Err cause) is head e = cc
    by_header first others (Ok header) is head e = by_rows first others header (rows_said header 2 [] others) is
        (header_found first (fields_of first) header refl head) refl e

    by_lines : (lines : List (List ℕ)) → significant (lines_of text) ≡ lines → lines_game lines ≡ Ok game
        → DenotesGame text game
    by_lines [] is e = cc
    by_lines (first ∷ others) is e = by_header first others (header_said (fields_of first)) is refl e

-- What is denoted is said.
pub text_again : NumbersAgain → ChoicesAgain → (text : List ℕ) (game : List (List Distribution)) → DenotesGame text game
    → game_of text ≡ Ok game
unfolding game_of
text_again numbers choices text game is =
    let ts : List Transition = transitions is.rows in
    let each = λ (s : ℕ) (h : s < is.header.states). state_again choices ts s (is.choice_count s) (choices_of game s)
    (fractions is.header is.others is.rows is.are_rows) (is.made s (omega (arith, is.states, h))) in
    let makes : MakesGame ts is.header.states is.header.choices game = record {
      full = gaps_again ts is.header.states (λ s h. (each s h).1);
      few = crowds_again ts is.header.states
          (λ s h. omega (arith, (each s h).0, (is.made s (omega (arith, is.states, h))).few));
      as_stated = λ c e. sum_alike (choice_end ts) is.choice_count is.header.states (λ s h. (each s h).0)
          ∙ ap (λ n. sum_of_first is.choice_count n) (sym is.states) ∙ is.all_choices c e;
      said = states_again ts is.header.states game (omega (arith, is.states)) (λ s h. (each s h).2)
          ∙ ap (λ n. Ok (take n game)) (sym is.states) ∙ ap (λ g. Ok g) (take-length game);
    } in
    ap lines_game is.lines
    ∙ ap (λ h. behind_header h is.others) (header_again is.first is.header is.is_header)
    ∙ ap (λ rows. rows_game is.header rows) (rows_again numbers is.header 2 [] is.others is.rows
    (omega (arith, is.as_stated)) is.are_rows (actions_again is.rows is.action_of is.actions))
    ∙ game_again ts is.header.states is.header.choices game makes
