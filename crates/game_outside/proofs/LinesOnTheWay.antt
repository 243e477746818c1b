-- What came off the shelf, and a line on its way.
use Rattle.std.proofs.Common.{◌≡◌, ◌<◌, inl, inr, ℕ, true, false, List, [], ◌∷◌, ◌++◌, length, Option, Some, None, sym}
use Rattle.std.proofs.Common.{ap, ◌∙◌, refl, subst, arith, append_assoc}
use Rattle.std.proofs.lemmas.Bool.{cases_Bool}
use Rattle.std.proofs.lemmas.List.{append-nil, length-append}
use Rattle.std.specs.Io.KnownBytes.{Consumes, IsAtEnd}
use Rattle.text_lines.specs.Text.{lines_of}
use Rattle.text_lines.specs.Laws.{HasNo}
use Rattle.game_outside.specs.LineTexts.{TextUnderWay, Takes, PassesLimit, GivesLine, IsOnTheWay, IsCut, IsUncut}

pub consumes_none : (rest : Option (List ℕ)) → Consumes rest rest []
consumes_none None = tt
consumes_none (Some bytes) = refl

pub consumes_more : (rest mid rest' : Option (List ℕ)) (first second : List ℕ) → Consumes rest mid first
    → Consumes mid rest' second → Consumes rest rest' (first ++ second)
consumes_more None mid rest' first second a b = tt
consumes_more (Some bytes) None rest' first second a b = absurd a
consumes_more (Some bytes) (Some left) None first second a b = absurd b
consumes_more (Some bytes) (Some left) (Some rest) first second a b =
    a ∙ ap (λ t. first ++ t) b ∙ sym (append_assoc first second rest)

-- nothing came yet
pub takes_none : (text : TextUnderWay) (rest : Option (List ℕ)) → Takes text text rest rest []
takes_none text rest = record { consumed = consumes_none rest; count = omega arith; end = λ on over. cc }

pub takes_more : (old mid new : TextUnderWay) (rest rest' rest'' : Option (List ℕ)) (first second : List ℕ)
    → Takes old mid rest rest' first → (mid.ended ≡ true → rest'' ≡ rest') → Takes mid new rest' rest'' second
    → Takes old new rest rest'' (first ++ second)
takes_more old mid new rest rest' rest'' first second a still b = record {
  consumed = consumes_more rest rest' rest'' first second a.consumed b.consumed;
  count = omega (arith, a.count, b.count, length-append first second);
  end = λ going over. elim (cases_Bool mid.ended) [
    | inl ended ↦ subst (λ t. IsAtEnd t) (sym (still ended)) (a.end going ended)
    | inr on ↦ b.end on over
  ];
}

pub passes_more : (old mid : TextUnderWay) (rest rest' rest'' : Option (List ℕ)) (first : List ℕ)
    → Takes old mid rest rest' first → mid.limit ≡ old.limit → PassesLimit mid rest' rest''
    → PassesLimit old rest rest''
passes_more old mid rest rest' rest'' first a same b = record {
  more = first ++ b.more;
  consumed = consumes_more rest rest' rest'' first b.more a.consumed b.consumed;
  over = omega (arith, a.count, same, b.over, length-append first b.more);
}

HasNo-append : (x : ℕ) (front back : List ℕ) → HasNo x front → HasNo x back → HasNo x (front ++ back)
HasNo-append x [] back a b = b
HasNo-append x (y ∷ front) back a b = (a.0, HasNo-append x front back a.1 b)

-- where nothing changes but what is held, as much came
kept_count : (old now new : TextUnderWay) (rest rest' : Option (List ℕ)) (more : List ℕ)
    → Takes old now rest rest' more → new ≡ record now { held = new.held } → Takes old new rest rest' more
kept_count old now new rest rest' more takes same = record {
  consumed = takes.consumed;
  count = ap (λ t. t.taken) same ∙ takes.count;
  end = λ going over. takes.end going (sym (ap (λ t. t.ended) same) ∙ over);
}

-- all that was held went behind the line
pub held_given : (old now new : TextUnderWay) (rest rest' : Option (List ℕ)) (line line' : List ℕ)
    → IsOnTheWay old now rest rest' line → IsUncut line line' now.held new.held → new ≡ record now { held = new.held }
    → IsOnTheWay old new rest rest' line'
held_given old now new rest rest' line line' on all same = record {
  more = on.more;
  takes = kept_count old now new rest rest' on.more on.takes same;
  parts = on.parts ∙ sym all.grown ∙ sym (append-nil line') ∙ ap (λ t. line' ++ t) (sym all.none);
  no_lf = subst (λ t. HasNo 10 t) (sym all.grown) (HasNo-append 10 line now.held on.no_lf all.no_lf);
}

pub piece_comes : (old now new : TextUnderWay) (rest rest' rest'' : Option (List ℕ)) (line : List ℕ)
    → IsOnTheWay old now rest rest' line → now.held ≡ [] → (now.ended ≡ true → rest'' ≡ rest')
    → Takes now new rest' rest'' new.held → IsOnTheWay old new rest rest'' line
piece_comes old now new rest rest' rest'' line on none still takes = record {
  more = on.more ++ new.held;
  takes = takes_more old now new rest rest' rest'' on.more new.held on.takes still takes;
  parts = sym (append_assoc old.held on.more new.held)
      ∙ ap (λ t. t ++ new.held) (on.parts ∙ ap (λ t. line ++ t) none ∙ append-nil line);
  no_lf = on.no_lf;
}

-- up to an LF there is none
pub none_before : (old now : TextUnderWay) (rest rest' : Option (List ℕ)) (line line' held : List ℕ)
    → IsOnTheWay old now rest rest' line → IsCut line line' now.held held → HasNo 10 line'
none_before old now rest rest' line line' held on cut =
    subst (λ t. HasNo 10 t) (sym cut.grown) (HasNo-append 10 line cut.front on.no_lf cut.no_lf)

-- an LF was found
pub line_ends : (old now new : TextUnderWay) (rest rest' : Option (List ℕ)) (line line' given : List ℕ)
    → IsOnTheWay old now rest rest' line → IsCut line line' now.held new.held → new ≡ record now { held = new.held }
    → ((behind : List ℕ) → lines_of (line' ++ 10 ∷ behind) ≡ given ∷ lines_of behind) → old.ended ≡ false
    → GivesLine old new rest rest' given
line_ends old now new rest rest' line line' given on cut same ends going = record {
  going = going;
  more = on.more;
  takes = kept_count old now new rest rest' on.more on.takes same;
  first = λ behind _. ap (λ t. lines_of (t ++ behind)) whole ∙ ap lines_of (append_assoc line' (10 ∷ new.held) behind)
      ∙ ends (new.held ++ behind);
  further = omega (
    arith,
    ap length whole,
    length-append old.held on.more,
    length-append line' (10 ∷ new.held),
    on.takes.count,
    ap (λ t. t.taken) same,
  );
}
  where
    whole : old.held ++ on.more ≡ line' ++ 10 ∷ new.held
    whole = on.parts ∙ ap (λ t. line ++ t) cut.parts ∙ sym (append_assoc line cut.front (10 ∷ new.held))
        ∙ ap (λ t. t ++ 10 ∷ new.held) (sym cut.grown)

-- the text ended behind a line
pub text_ends : (old now : TextUnderWay) (rest rest' : Option (List ℕ)) (line : List ℕ)
    → IsOnTheWay old now rest rest' line → now.held ≡ [] → now.ended ≡ true → lines_of line ≡ line ∷ []
    → 0 < length line → old.ended ≡ false → GivesLine old now rest rest' line
text_ends old now rest rest' line on none ended last some going = record {
  going = going;
  more = on.more;
  takes = on.takes;
  first = λ behind follows.
      ap (λ t. lines_of ((old.held ++ on.more) ++ t)) (follows ended)
      ∙ ap lines_of (append-nil (old.held ++ on.more) ∙ whole) ∙ last
      ∙ ap (λ t. line ∷ lines_of t)
      (sym none ∙ sym (append-nil now.held) ∙ ap (λ t. now.held ++ t) (sym (follows ended)));
  further = omega (arith, ap length whole, length-append old.held on.more, on.takes.count, ap length none, some);
}
  where
    whole : old.held ++ on.more ≡ line
    whole = on.parts ∙ ap (λ t. line ++ t) none ∙ append-nil line
