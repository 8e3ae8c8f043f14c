-- Hellos and proofs that are refused.
use Rattle.std.proofs.Common.{◌≡◌, ◌≢◌, ◌∙◌, ◌≤◌, ◌+◌, ℕ, Bool, true, false, ◌&&◌, List, [], ◌∷◌, ◌++◌, length, take, drop, ap, ap₂, sym, refl, subst, arith, append_assoc, length-append}
use Rattle.std.proofs.Math.Seq.{take-append_seam, drop-append_seam}
use Rattle.std.proofs.lemmas.Bool.{le-leb}
use Rattle.std.proofs.lemmas.Slice.Eq.{bytes_eq-Decides}
use Rattle.vd_channel_crypto.specs.Hellos.{digest_between, link_direction}
use Rattle.vd_channel_crypto.specs.Records.{Direction}
use Rattle.vd_channel_crypto.specs.declared.hellos.Hello.{Hello}
use Rattle.vd_channel_link.specs.Opened.{has_tag, is_few}
use Rattle.vd_channel_link.specs.Taking.{Brings, HasNoHead, IsReason}
use Rattle.vd_channel_link.specs.declared.fault.SealFault.{SealFault}
use Rattle.vd_channel_link.specs.declared.fault.SealFault.TheVariants as fault
use Rattle.vd_channel_link.specs.Meeting.{DifferBetween, HasNoProof, IsHeard, IsHelloFault, IsMeetFault, IsProofFault, OfHello, OfProof, head_of}

take_front : (n : ℕ) (xs ys : List ℕ) → length xs ≡ n → take n (xs ++ ys) ≡ xs
take_front n xs ys is = ap (λ (m : ℕ). take m (xs ++ ys)) (sym is) ∙ take-append_seam xs ys

take_two : (n : ℕ) (xs ys zs : List ℕ) → length xs + length ys ≡ n → take n (xs ++ (ys ++ zs)) ≡ xs ++ ys
take_two n xs ys zs is = ap (take n) (sym (append_assoc xs ys zs)) ∙ take_front n (xs ++ ys) zs (length-append xs ys ∙ is)

behind_same : (xs ys zs : List ℕ) → xs ++ ys ≡ xs ++ zs → ys ≡ zs
behind_same xs ys zs e = sym (drop-append_seam xs ys) ∙ ap (drop (length xs)) e ∙ drop-append_seam xs zs

-- bytes that begin with the same front, and then with other pieces of one length
differ : (front piece behind other last coming wanted : List ℕ) (start end : ℕ) → coming ≡ front ++ (piece ++ behind) → wanted ≡ front ++ (other ++ last)
    → length front ≡ start → length front + length piece ≡ end → length other ≡ length piece → piece ≢ other → DifferBetween start end coming wanted
differ front piece behind other last coming wanted start end are want first next long wrong =
    let all : length coming ≡ length front + (length piece + length behind) =
    ap length are ∙ length-append front (piece ++ behind) ∙ ap (λ (n : ℕ). length front + n) (length-append piece behind) in
    let next_wanted : length front + length other ≡ end = ap (λ (n : ℕ). length front + n) long ∙ next in
    record {
      long = omega (arith, all, next);
      same = ap (take start) are ∙ take_front start front (piece ++ behind) first ∙ sym (ap (take start) want ∙ take_front start front (other ++ last) first);
      other = λ e. wrong (behind_same front piece other
          (sym (take_two end front piece behind next) ∙ ap (take end) (sym are) ∙ e ∙ ap (take end) want ∙ take_two end front other last next_wanted));
    }

-- another version
pub other_version : (id : List ℕ) (from to : ℕ) (a version b : List ℕ) → a ≡ version ++ b → length version ≡ 2 → version ≢ 0x47 ∷ 2 ∷ []
    → DifferBetween 0 2 a (head_of id from to)
other_version id from to a version b va two wrong = differ [] version b (0x47 ∷ 2 ∷ []) (id ++ (from ∷ to ∷ [])) a (head_of id from to) 0 2 va refl refl (omega (arith, two)) (sym two) wrong

-- another dealing
pub other_dealing : (id : List ℕ) (from to : ℕ) (a version b heard c : List ℕ) → a ≡ version ++ b → b ≡ heard ++ c → version ≡ 0x47 ∷ 2 ∷ []
    → length heard ≡ 32 → length id ≡ 32 → heard ≢ id → DifferBetween 2 34 a (head_of id from to)
other_dealing id from to a version b heard c va hb v long wide wrong =
    let are : a ≡ 0x47 ∷ 2 ∷ [] ++ (heard ++ c) = va ∙ ap (λ (xs : List ℕ). xs ++ b) v ∙ ap (λ (xs : List ℕ). 0x47 ∷ 2 ∷ xs) hb in
    differ (0x47 ∷ 2 ∷ []) heard c id (from ∷ to ∷ []) a (head_of id from to) 2 34 are refl refl (omega (arith, long)) (wide ∙ sym long) wrong

-- other hosts
pub other_hosts : (id : List ℕ) (from to : ℕ) (a version b heard c ends d : List ℕ) → a ≡ version ++ b → b ≡ heard ++ c → c ≡ ends ++ d → version ≡ 0x47 ∷ 2 ∷ []
    → heard ≡ id → length id ≡ 32 → length ends ≡ 2 → ends ≢ from ∷ to ∷ [] → DifferBetween 34 36 a (head_of id from to)
other_hosts id from to a version b heard c ends d va hb ec v i wide two wrong =
    let are : a ≡ (0x47 ∷ 2 ∷ id) ++ (ends ++ d) =
    va ∙ ap (λ (xs : List ℕ). xs ++ b) v
    ∙ ap (λ (xs : List ℕ). 0x47 ∷ 2 ∷ xs) (hb ∙ ap (λ (xs : List ℕ). xs ++ c) i ∙ ap (λ (xs : List ℕ). id ++ xs) ec) in
    differ (0x47 ∷ 2 ∷ id) ends d (from ∷ to ∷ []) [] a (head_of id from to) 34 36 are refl (omega (arith, wide)) (omega (arith, wide, two)) (sym two) wrong

-- ---- the record behind it

has_head : (count : ℕ) (rest : List ℕ) → count ≤ 128 → (has_tag (0x58 ∷ count ∷ rest) && is_few (0x58 ∷ count ∷ rest)) ≡ true
has_head count rest few = ap₂ (λ (p q : Bool). p && q) ((bytes_eq-Decides (0x58 ∷ []) (0x58 ∷ [])).1 refl) (le-leb count 128 few)

same_head : (a b count : ℕ) (rest : List ℕ) → take 2 (a ∷ b ∷ rest) ≡ 0x58 ∷ count ∷ [] → a ∷ b ∷ rest ≡ 0x58 ∷ count ∷ rest
same_head a b count rest e = let first : a ≡ 0x58 = cc in let second : b ≡ count = cc in ap₂ (λ (x y : ℕ). x ∷ y ∷ rest) first second

not_empty : (coming : List ℕ) → 2 ≤ length coming → (has_tag coming && is_few coming) ≡ false → take 2 coming ≢ 0x58 ∷ 0 ∷ []
not_empty [] long wrong e = absurd (omega (arith, long))
not_empty (a ∷ []) long wrong e = absurd (omega (arith, long))
not_empty (a ∷ b ∷ rest) long wrong e =
    let yes : (has_tag (a ∷ b ∷ rest) && is_few (a ∷ b ∷ rest)) ≡ true =
    ap (λ (l : List ℕ). has_tag l && is_few l) (same_head a b 0 rest e) ∙ has_head 0 rest (omega arith) in
    absurd (let never : true ≡ false = sym yes ∙ wrong in cc)

no_record : (coming : List ℕ) → HasNoHead coming → HasNoProof coming
no_record coming none = record { long = none.0; other = not_empty coming none.0 none.1 }

none_of : (bytes : List ℕ) → length bytes ≡ 0 → bytes ≡ []
none_of [] wrong = refl
none_of (b ∷ bytes) wrong = absurd cc

-- it carries bytes
pub some_bytes : (theirs : Direction) (coming rest bytes : List ℕ) → Brings theirs 0 coming rest bytes → bytes ≢ [] → HasNoProof coming
some_bytes theirs coming rest bytes brings some = record {
  long = omega (arith, ap length brings.came);
  other = λ e.
      let head : 0x58 ∷ length bytes ∷ [] ≡ 0x58 ∷ 0 ∷ [] = sym (ap (take 2) brings.came) ∙ e in
      some (none_of bytes cc);
}

pub record_refused : (theirs : Direction) (coming : List ℕ) (why : SealFault) → IsReason theirs 0 coming why → IsProofFault theirs coming why
record_refused theirs coming fault.Peer is = tt
record_refused theirs coming fault.End is = is
record_refused theirs coming fault.Version is = is
record_refused theirs coming fault.Dealing is = is
record_refused theirs coming fault.Host is = is
record_refused theirs coming fault.Head is = no_record coming is
record_refused theirs coming fault.Code is = is

-- ---- both

pub of_hello : (mine : Hello) (key coming : List ℕ) (why : SealFault) → IsHelloFault (head_of mine.id mine.to.0 mine.from.0) coming why → IsMeetFault mine key coming why
of_hello mine key coming why is = OfHello is

pub of_proof : (mine theirs : Hello) (key coming rest : List ℕ) (other : Direction) (why : SealFault) → other ≡ link_direction key theirs.from.0 (digest_between mine theirs)
    → IsHeard mine theirs coming rest → IsProofFault other rest why → IsMeetFault mine key coming why
of_proof mine theirs key coming rest other why keys heard fails =
    OfProof theirs rest heard (subst (λ (d : Direction). IsProofFault d rest why) keys fails)
