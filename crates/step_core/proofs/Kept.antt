-- Each lawful event keeps the invariant, and adds as many down steps as it wins exchanges.
use Rattle.std.proofs.Common.{◌≡◌, ◌≢◌, ℕ, zero, suc, ◌+◌, ◌<◌, ◌≤◌, sum_by, add-one, le_refl, ◌∙◌, List, [], ◌∷◌, ◌++◌}
use Rattle.std.proofs.Common.{length, get_or, set, arith, refl, sym, ap, subst, inl, inr, ◌⊎◌}
use Rattle.std.specs.Prelude.{slice_index, slice_set, Option, Some, None, IsSome, unwrap_or}
use Rattle.std.proofs.lemmas.List.Sums.{sum_by-cons}
use Rattle.std.proofs.lemmas.Option.{none-some}
use Rattle.std.proofs.lemmas.Bool.{true≢false}
use Rattle.game_model.specs.Query.{Query, IsQuery, states}
use Rattle.game_model.specs.Rounded.{down_steps, opening, IsBelow}
use Rattle.step_core.specs.declared.event.Event.{Event}
use Rattle.step_core.specs.declared.event.Event.TheVariants.{Load, Won, Lost, Split, Join}
use Rattle.step_core.specs.Word.{value_in, value_at, greater_words, opening_words}
use Rattle.step_core.specs.Sound.{AreSoundWords, Sees}
use Rattle.step_core.specs.Configuration.{Configuration, view_of, seen_by, opening_configuration, IsWorld}
use Rattle.step_core.specs.Events.{IsLive, Raises, Lawful, looked, after, wins, Leads}
use Rattle.step_core.proofs.Sights.{Sees-raised, Sees-looked, Sees-both}
use Rattle.step_core.proofs.Words.{AreSoundWords-goals, AreSoundWords-won, raised-within, AreSoundWords-opening}
use Rattle.step_core.proofs.Words.{opening_words-value, Sees-itself}

abbrev Views : Type 0
Views = List (Option (List ℕ))

some-same : (xs ys : List ℕ) → Some xs ≡ Some ys → xs ≡ ys
some-same xs ys same = cc

-- a view after one is written
at_set : (views : Views) (i j : ℕ) (view : Option (List ℕ)) (seen : List ℕ)
    → get_or (set views i view) j None ≡ Some seen
    → ((j ≡ i) × (view ≡ Some seen)) ⊎ ((j ≢ i) × (get_or views j None ≡ Some seen))
at_set [] i j view seen is = absurd (none-some seen is)
at_set (v ∷ vs) zero zero view seen is = inl (refl, is)
at_set (v ∷ vs) zero (suc j) view seen is = inr ((λ same. omega arith), is)
at_set (v ∷ vs) (suc i) zero view seen is = inr ((λ same. omega arith), is)
at_set (v ∷ vs) (suc i) (suc j) view seen is = elim (at_set vs i j view seen is) [
  | inl here ↦ inl (ap suc here.0, here.1)
  | inr there ↦ let apart = there.0 in inr ((λ same. apart (omega arith)), there.1)
]

-- a view after one is added
at_end : (views : Views) (j : ℕ) (view : Option (List ℕ)) (seen : List ℕ)
    → get_or (views ++ view ∷ []) j None ≡ Some seen → (view ≡ Some seen) ⊎ (get_or views j None ≡ Some seen)
at_end [] zero view seen is = inl is
at_end [] (suc j) view seen is = absurd (none-some seen is)
at_end (v ∷ vs) zero view seen is = inr is
at_end (v ∷ vs) (suc j) view seen is = at_end vs j view seen is

live-some : (view : Option (List ℕ)) → IsSome view → view ≡ Some (unwrap_or view [])
live-some None live = absurd (true≢false (sym live))
live-some (Some seen) live = refl

-- what a live view has seen
pub seen_by-some : (w : Configuration) (view : ℕ) → IsLive w view → view_of w view ≡ Some (seen_by w view)
seen_by-some w view live = live-some (view_of w view) live

pub Sees-seen_by : (w : Configuration) (view : ℕ) → IsWorld w → IsLive w view → Sees w.question w.words (seen_by w view)
Sees-seen_by w view k live = k.views view (seen_by w view) (seen_by-some w view live)

-- one view sees something else
views_with : (q : Query) (words : List ℕ) (views : Views) (view : ℕ) (new : Option (List ℕ))
    → ((j : ℕ) (seen : List ℕ) → get_or views j None ≡ Some seen → Sees q words seen)
    → ((seen : List ℕ) → new ≡ Some seen → Sees q words seen) → (j : ℕ) (seen : List ℕ)
    → get_or (set views view new) j None ≡ Some seen → Sees q words seen
views_with q words views view new others mine j seen is = elim (at_set views view j new seen is) [
  | inl here ↦ mine seen here.1
  | inr there ↦ others j seen there.1
]

only : (q : Query) (words new : List ℕ) → Sees q words new → (seen : List ℕ) → Some new ≡ Some seen → Sees q words seen
only q words new sees seen same = subst (Sees q words) (some-same new seen same) sees

pub looked-keeps : (w : Configuration) (view state : ℕ) → IsWorld w → IsLive w view → state < states w.question
    → IsWorld (looked w view state)
looked-keeps w view state k live inside = record {
  question = k.question;
  words = k.words;
  views = views_with w.question w.words w.views view
      (Some (slice_set (seen_by w view) state (slice_index w.words state))) k.views
      (only w.question w.words _ (Sees-looked w.question w.words (seen_by w view) state inside
      (AreSoundWords-goals w.question w.words k.words) (Sees-seen_by w view k live)));
}

pub raised-keeps : (w : Configuration) (view state from to : ℕ) → IsWorld w → Raises w view state from to
    → IsWorld (looked (record w { words = slice_set w.words state to }) view state)
raised-keeps w view state from to k r =
    let q = w.question in
    let mine : Sees q w.words (seen_by w view) = Sees-seen_by w view k r.live in
    let there : state < length w.words = subst (λ n. state < n) (sym k.words.as_many) r.inside in
    let up : value_at w.words state < value_in to = subst (λ n. value_in n < value_in to) (sym r.is_from) r.raised in
    let sound : AreSoundWords q (set w.words state to) = AreSoundWords-won q k.question w.words
    (seen_by w view) state to r.inside r.free k.words.as_many mine up r.given k.words in
    record {
      question = k.question;
      words = sound;
      views = views_with q (set w.words state to) w.views view
          (Some (set (seen_by w view) state (slice_index (set w.words state to) state)))
          (λ j seen is. Sees-raised q w.words seen state to there up (k.views j seen is))
          (only q (set w.words state to) _ (Sees-looked q (set w.words state to)
          (seen_by w view) state r.inside (AreSoundWords-goals q (set w.words state to) sound)
          (Sees-raised q w.words (seen_by w view) state to there up mine)));
    }

pub split-keeps : (w : Configuration) (view : ℕ) → IsWorld w → IsLive w view → IsWorld (after w (Split view))
split-keeps w view k live = record {
  question = k.question;
  words = k.words;
  views = λ j seen is. elim (at_end w.views j (Some (seen_by w view)) seen is) [
    | inl new ↦ only w.question w.words (seen_by w view) (Sees-seen_by w view k live) seen new
    | inr old ↦ k.views j seen old
  ];
}

pub join-keeps : (w : Configuration) (view other : ℕ) → IsWorld w → IsLive w view → IsLive w other
    → IsWorld (after w (Join view other))
join-keeps w view other k live there = record {
  question = k.question;
  words = k.words;
  views = views_with w.question w.words (set w.views other None) view
      (Some (greater_words (seen_by w view) (seen_by w other)))
      (views_with w.question w.words w.views other None k.views (λ seen none. absurd (none-some seen none)))
      (only w.question w.words _ (Sees-both w.question w.words (seen_by w view) (seen_by w other)
      (Sees-seen_by w view k live) (Sees-seen_by w other k there)));
}

-- a lawful event keeps the invariant
pub after-keeps : (w : Configuration) (event : Event) → IsWorld w → Lawful w event → IsWorld (after w event)
after-keeps w (Load view state) k lawful = looked-keeps w view state k lawful.0 lawful.1
after-keeps w (Won view state from to) k lawful = raised-keeps w view state from to k lawful
after-keeps w (Lost view state) k lawful = looked-keeps w view state k lawful.0 lawful.1
after-keeps w (Split view) k lawful = split-keeps w view k lawful
after-keeps w (Join view other) k lawful = join-keeps w view other k lawful.0 lawful.1

pub opening-keeps : (q : Query) → IsQuery q → IsWorld (opening_configuration q)
opening-keeps q h = record { question = h; words = AreSoundWords-opening q h; views = one }
  where
    one : (j : ℕ) (seen : List ℕ) → view_of (opening_configuration q) j ≡ Some seen
        → Sees q (opening_configuration q).words seen
    one zero seen is = only q _ _ (Sees-itself q _ (AreSoundWords-opening q h)) seen is
    one (suc j) seen is = absurd (none-some seen is)

-- and so does every list of them
pub Leads-keeps : (w later : Configuration) (events : List Event) → IsWorld w → Leads w events later → IsWorld later
Leads-keeps w later [] k same = subst IsWorld same k
Leads-keeps w later (event ∷ events) k leads =
    Leads-keeps (after w event) later events (after-keeps w event k leads.0) leads.1

within_none : (q : Query) (words : List ℕ) (r : ℕ) → IsBelow q (value_at words) (down_steps q r)
    → IsBelow q (value_at words) (down_steps q (r + 0))
within_none q words r below =
    let same : r ≡ r + 0 = omega arith in
    subst (λ n. IsBelow q (value_at words) (down_steps q n)) same below

-- a lawful event adds as many down steps as it wins exchanges
pub after-within : (w : Configuration) (event : Event) (r : ℕ) → IsWorld w
    → Lawful w event → IsBelow w.question (value_at w.words) (down_steps w.question r)
    → IsBelow w.question (value_at (after w event).words) (down_steps w.question (r + wins event))
after-within w (Load view state) r k lawful below = within_none w.question w.words r below
after-within w (Won view state from to) r k lawful below =
    let q = w.question in
    let up : value_at w.words state < value_in to =
    subst (λ n. value_in n < value_in to) (sym lawful.is_from) lawful.raised in
    subst (λ n. IsBelow q (value_at (set w.words state to)) (down_steps q n)) (sym (add-one r))
    (raised-within q k.question w.words (seen_by w view) state to lawful.inside lawful.free k.words.as_many
    (Sees-seen_by w view k lawful.live) up lawful.given r below)
after-within w (Lost view state) r k lawful below = within_none w.question w.words r below
after-within w (Split view) r k lawful below = within_none w.question w.words r below
after-within w (Join view other) r k lawful below = within_none w.question w.words r below

after-question : (w : Configuration) (event : Event) → (after w event).question ≡ w.question
after-question w (Load view state) = refl
after-question w (Won view state from to) = refl
after-question w (Lost view state) = refl
after-question w (Split view) = refl
after-question w (Join view other) = refl

-- and a list of them as many as they win together
pub Leads-within : (q : Query) (w later : Configuration) (events : List Event) (r : ℕ)
    → w.question ≡ q → IsWorld w → Leads w events later → IsBelow q (value_at w.words) (down_steps q r)
    → IsBelow q (value_at later.words) (down_steps q (r + sum_by wins events))
Leads-within q w later [] r is k same below = within_none q later.words r
    (subst (λ (v : Configuration). IsBelow q (value_at v.words) (down_steps q r)) same below)
Leads-within q w later (event ∷ events) r is k leads below =
    let next : IsBelow q (value_at (after w event).words) (down_steps q (r + wins event)) =
    subst (λ p. IsBelow p (value_at (after w event).words) (down_steps p (r + wins event))) is
    (after-within w event r k leads.0 (subst (λ p. IsBelow p (value_at w.words) (down_steps p r)) (sym is) below)) in
    let sum : r + wins event + sum_by wins events ≡ r + sum_by wins (event ∷ events) =
    omega (arith, sum_by-cons wins event events) in
    subst (λ n. IsBelow q (value_at later.words) (down_steps q n)) sum
    (Leads-within q (after w event) later events (r + wins event) (after-question w event ∙ is)
    (after-keeps w event k leads.0) leads.1 next)

pub opening-within : (q : Query) → IsBelow q (value_at (opening_words q)) (down_steps q 0)
unfolding down_steps
opening-within q s inside = subst (λ n. n ≤ opening q s) (sym (opening_words-value q s)) (le_refl (opening q s))
