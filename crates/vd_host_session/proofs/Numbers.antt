-- The numbers of a host's peers.
use Rattle.std.proofs.Common.{arith, ◌≡◌, ◌≢◌, ◌<◌, ◌≤◌, ◌⊎◌, ⊎_elim, ℕ, suc}
use Rattle.std.proofs.lemmas.Bool.Decides.{nat_tests}
use Rattle.vd_host_session.specs.Peers.{number_at}

-- which number it is
record IsNumber (me place number : ℕ) : Type 0 where
  pub before : place < me → number ≡ place
  pub behind : me ≤ place → number ≡ suc place

number_is : (me place : ℕ) → IsNumber me place (number_at me place)
number_is me place = record { before = λ less. grind (arith, nat_tests); behind = λ least. grind (arith, nat_tests) }

pub less_or_least : (place me : ℕ) → (place < me) ⊎ (me ≤ place)
less_or_least place me = grind arith

-- peers at two places are two
places_same : (me place other a b : ℕ) → IsNumber me place a → IsNumber me other b → a ≡ b → place ≡ other
places_same me place other a b p q e =
    ⊎_elim (λ (less : place < me).
    ⊎_elim (λ (early : other < me). let x = p.before less in let y = q.before early in omega (arith, x, y, e))
    (λ (late : me ≤ other). let x = p.before less in let y = q.behind late in absurd (omega (arith, x, y, e, less, late))) (less_or_least other me))
    (λ (least : me ≤ place).
    ⊎_elim (λ (early : other < me). let x = p.behind least in let y = q.before early in absurd (omega (arith, x, y, e, least, early)))
    (λ (late : me ≤ other). let x = p.behind least in let y = q.behind late in omega (arith, x, y, e)) (less_or_least other me))
    (less_or_least place me)

pub numbers_differ : (me place other : ℕ) → place ≢ other → number_at me place ≢ number_at me other
numbers_differ me place other differs same = differs (places_same me place other (number_at me place) (number_at me other) (number_is me place) (number_is me other) same)

is_apart : (me place number : ℕ) → IsNumber me place number → number ≢ me
is_apart me place number n same =
    ⊎_elim (λ (less : place < me). let is = n.before less in absurd (omega (arith, less, is, same)))
    (λ (least : me ≤ place). let is = n.behind least in absurd (omega (arith, least, is, same)))
    (less_or_least place me)

-- no peer is the host itself
pub number_apart : (me place : ℕ) → number_at me place ≢ me
number_apart me place = is_apart me place (number_at me place) (number_is me place)

pub later_number : (me place : ℕ) → me ≤ place → number_at me place ≡ suc place
later_number me place least = (number_is me place).behind least

pub earlier_number : (me place : ℕ) → place < me → number_at me place ≡ place
earlier_number me place less = (number_is me place).before less
