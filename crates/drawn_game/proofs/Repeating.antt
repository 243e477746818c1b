-- Drawings one after another.
use Rattle.std.proofs.Common.{◌≡◌, ◌∙◌, ◌+◌, ℕ, zero, suc, [], ◌∷◌, ◌++◌, refl, ap, length, add-one}
use Rattle.std.specs.Prelude.{All}
use Rattle.std.proofs.lemmas.List.{length_push}
use Rattle.std.proofs.lemmas.List.Elements.{All-nil, All-push}
use Rattle.drawn_game.specs.Drawings.{Drawing, times}

pub value-times_more : {X : Type 0} (one : Drawing X) (k x : ℕ)
    → (times (k + 1) one x).value ≡ (times k one x).value ++ (one (times k one x).last).value ∷ []
value-times_more one k x = ap (λ n. (times n one x).value) (add-one k)

pub last-times_more : {X : Type 0} (one : Drawing X) (k x : ℕ)
    → (times (k + 1) one x).last ≡ (one (times k one x).last).last
last-times_more one k x = ap (λ n. (times n one x).last) (add-one k)

pub length-times : {X : Type 0} (one : Drawing X) (k x : ℕ) → length (times k one x).value ≡ k
length-times one zero x = refl
length-times one (suc k) x = length_push (times k one x).value (one (times k one x).last).value
    ∙ ap (λ n. n + 1) (length-times one k x) ∙ add-one k

-- what holds of each outcome
pub All-times : {X : Type 0} (P : X → Type 0) (one : Drawing X) → ((x : ℕ) → P (one x).value) → (k x : ℕ)
    → All P (times k one x).value
All-times P one each zero x = All-nil P
All-times P one each (suc k) x = All-push P (times k one x).value (one (times k one x).last).value
    (All-times P one each k x) (each (times k one x).last)
