-- Bytes that are refused.
use Rattle.std.proofs.Common.{◌≡◌, ◌≢◌, ◌∙◌, ◌≤◌, ℕ, Bool, true, false, ◌&&◌, List, [], ◌∷◌, ◌++◌, length, slice_index, IsTrue, ap, ap₂, sym, refl, subst, arith, length-append}
use Rattle.std.proofs.lemmas.Bool.{le-leb}
use Rattle.std.proofs.lemmas.Slice.Eq.{bytes_eq-Decides}
use Rattle.vd_channel_crypto.specs.Records.{Direction, record_code}
use Rattle.vd_channel_link.specs.Opened.{code_at, covered_at, has_code}
use Rattle.vd_channel_link.specs.Taking.{HasOtherCode, IsCut, IsReason}
use Rattle.vd_channel_link.specs.declared.fault.SealFault.{SealFault}
use Rattle.vd_channel_link.specs.declared.fault.SealFault.TheVariants as fault
use Rattle.vd_channel_link.proofs.Beginning.{code_there, covered_there, parts}

never : (t : Bool) → (t ≡ true → ⊥) → t ≡ false
never true wrong = absurd (wrong refl)
never false wrong = refl

-- a head of two bytes
two_of : (head : List ℕ) → length head ≡ 2 → head ≡ slice_index head 0 ∷ slice_index head 1 ∷ []
two_of [] two = absurd cc
two_of (a ∷ []) two = absurd cc
two_of (a ∷ b ∷ []) two = refl
two_of (a ∷ b ∷ c ∷ xs) two = absurd (omega (arith, two))

abbrev begun : (tag count : ℕ) → List ℕ → List ℕ
begun tag count mid = tag ∷ count ∷ mid

front_is : (coming head mid : List ℕ) → coming ≡ head ++ mid → length head ≡ 2 → coming ≡ begun (slice_index head 0) (slice_index head 1) mid
front_is coming head mid is two = is ∙ ap (λ (l : List ℕ). l ++ mid) (two_of head two)

other_code_at : (keys : Direction) (number count : ℕ) (covered code rest : List ℕ) → count ≤ 128 → length covered ≡ count → length code ≡ 32
    → code ≢ record_code keys number covered → HasOtherCode keys number (parts count covered code rest)
other_code_at keys number count covered code rest few counted long other =
    let all = parts count covered code rest in (
      ap₂ (λ (p q : Bool). p && q) ((bytes_eq-Decides (0x58 ∷ []) (0x58 ∷ [])).1 refl) (le-leb count 128 few),
      omega (arith, counted, long, length-append covered (code ++ rest), length-append code rest),
      never (has_code keys number all) (λ e.
          let same = (bytes_eq-Decides (code_at all) (record_code keys number (covered_at all))).0 e in
          other (sym (code_there count covered code rest counted long) ∙ same ∙ ap (record_code keys number) (covered_there count covered code rest counted))),
    )

-- another code
pub other_code : (keys : Direction) (number : ℕ) (coming head covered code mid last rest : List ℕ) → coming ≡ head ++ mid → mid ≡ covered ++ last → last ≡ code ++ rest
    → length head ≡ 2 → slice_index head 0 ≡ 0x58 → slice_index head 1 ≤ 128 → length covered ≡ slice_index head 1 → length code ≡ 32 → code ≢ record_code keys number covered
    → HasOtherCode keys number coming
other_code keys number coming head covered code mid last rest is more end two tag few counted long other =
    let whole : coming ≡ parts (slice_index head 1) covered code rest =
    front_is coming head mid is two
    ∙ ap (λ (t : ℕ). begun t (slice_index head 1) mid) tag
    ∙ ap (λ (l : List ℕ). 0x58 ∷ slice_index head 1 ∷ l) (more ∙ ap (λ (l : List ℕ). covered ++ l) end) in
    subst (HasOtherCode keys number) (sym whole) (other_code_at keys number (slice_index head 1) covered code rest few counted long other)

-- where it ended, the bytes end within a record
pub cut_of : (keys : Direction) (number : ℕ) (coming : List ℕ) (why : SealFault) → why ≡ fault.End → IsReason keys number coming why → IsCut coming
cut_of keys number coming why is reason = subst (IsReason keys number coming) is reason

-- what was told behind a call was told before it
pub told : (now before : Bool) → now ≡ before → IsTrue now → IsTrue before
told now before same holds = subst (λ (b : Bool). IsTrue b) same holds
