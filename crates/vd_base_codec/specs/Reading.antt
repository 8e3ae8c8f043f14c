-- What is read at the front of bytes.
use Rattle.std.specs.Prelude.{◌≡◌, ◌==◌, ℕ, zero, suc, ◌+◌, ◌*◌, ◌-◌, Bool, ◌&&◌, List, [], ◌∷◌, Option, Some, None, Result, Ok, Err, nat_le, nat_lt, min, decimal, if◌then◌else◌}
use Rattle.vd_base.specs.Lexical.{is_digit}
use Rattle.vd_base_codec.specs.declared.fault.Stopped.{Stopped}
use Rattle.vd_base_codec.specs.declared.fault.CodecFault.{CodecFault}
use Rattle.vd_base_codec.specs.declared.fault.CodecFault.TheVariants as fault

-- the next byte, if there is one
abbrev pub first : List ℕ → Option ℕ
first [] = None
first (b ∷ bs) = Some b

-- A value and the bytes behind it; or the bytes from the first one on that cannot stand there.
abbrev pub Reading : Type 0 → Type 0
Reading X = Result (X × List ℕ) (List ℕ)

infixl 10 ◌>>=◌
abbrev pub ◌>>=◌ : {A B : Type 0} → Reading A → (A × List ℕ → Reading B) → Reading B
(Ok x) >>= f = f x
(Err left) >>= f = Err left

-- What a call answered and left is this reading.
abbrev pub Gives : {X : Type 0} → Result X Stopped → List ℕ → Reading X → Type 0
Gives (Ok x) left reading = reading ≡ Ok (x, left)
Gives (Err _) left reading = reading ≡ Err left

abbrev pub StopsOrMemory : {X : Type 0} → CodecFault → List ℕ → Reading X → Type 0
StopsOrMemory fault.Stopped left reading = reading ≡ Err left
StopsOrMemory fault.Memory left reading = Unit {0}

-- The same, unless memory runs out.
abbrev pub GivesOrMemory : {X : Type 0} → Result X CodecFault → List ℕ → Reading X → Type 0
GivesOrMemory (Ok x) left reading = reading ≡ Ok (x, left)
GivesOrMemory (Err why) left reading = StopsOrMemory why left reading

-- this byte
abbrev pub byte_at : ℕ → List ℕ → Reading (Unit {0})
byte_at byte [] = Err []
byte_at byte (b ∷ bs) = if b == byte then Ok (tt, bs) else Err (b ∷ bs)

-- these bytes
unfoldable pub literal_at : List ℕ → List ℕ → Reading (Unit {0})
literal_at [] bs = Ok (tt, bs)
literal_at (w ∷ ws) bs = byte_at w bs >>= λ x. literal_at ws x.1

-- A digit with which n goes on to be a number of at most `most`. No number goes on behind 0.
abbrev pub goes_on : ℕ → ℕ → ℕ → Bool
goes_on most n b = nat_lt 0 n && (is_digit b && nat_le (n * 10 + (b - 48)) most)

abbrev pub longer : ℕ → ℕ → List ℕ → Option ℕ
longer most n [] = None
longer most n (b ∷ bs) = if goes_on most n b then Some (n * 10 + (b - 48)) else None

-- n, or what it is with as many digits behind it as it goes on with
unfoldable pub longest_at : ℕ → ℕ → List ℕ → ℕ × List ℕ
longest_at most n [] = (n, [])
longest_at most n (b ∷ bs) = if goes_on most n b then longest_at most (n * 10 + (b - 48)) bs else (n, b ∷ bs)

-- a decimal number of at most `most`, as far as its digits go
abbrev pub number_at : ℕ → List ℕ → Reading ℕ
number_at most [] = Err []
number_at most (b ∷ bs) = if is_digit b && nat_le (b - 48) most then Ok (longest_at most (b - 48) bs) else Err (b ∷ bs)

-- a space and such a number
abbrev pub field_at : ℕ → List ℕ → Reading ℕ
field_at most bs = byte_at 32 bs >>= λ x. number_at most x.1

-- nothing more
abbrev pub end_at : List ℕ → Reading (Unit {0})
end_at [] = Ok (tt, [])
end_at (b ∷ bs) = Err (b ∷ bs)

abbrev pub to_the_end : {X : Type 0} → Reading X → Reading X
to_the_end reading = reading >>= λ x. (end_at x.1 >>= λ y. Ok (x.0, y.1))

-- n values one after the other
unfoldable pub each_at : {X : Type 0} → (List ℕ → Reading X) → ℕ → List ℕ → Reading (List X)
each_at one zero bs = Ok ([], bs)
each_at one (suc n) bs = one bs >>= λ x. (each_at one n x.1 >>= λ xs. Ok (x.0 ∷ xs.0, xs.1))

-- how a number is written behind the space that parts it from what stands before it
abbrev pub field : ℕ → List ℕ
field n = 32 ∷ decimal n

-- how an offset is told: 4294967295 where it would be larger
abbrev pub capped : ℕ → ℕ
capped at = min at 4294967295
