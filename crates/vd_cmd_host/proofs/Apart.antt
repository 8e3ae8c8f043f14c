-- Marks of two hosts or dealings are two, and each tells what it is of.
use Rattle.std.proofs.Common.{arith, ◌≡◌, ◌<◌, ◌+◌, ◌^◌, ◌∙◌, ℕ, zero, suc, List, [], ◌∷◌, ◌++◌, take, length, Ok, Err, inr, codes, refl, sym, ap}
use Rattle.std.specs.Fmt.{decimal}
use Rattle.std.specs.List.{AllByRecursion}
use Rattle.std.proofs.lemmas.Fmt.{decimal_is_IsNumeral}
use Rattle.std.specs.Str.Parse.{digits_value}
use Rattle.std.proofs.lemmas.List.{append_cancel_left}
use Rattle.vd_base_codec.specs.Digits.{IsByte, key_text}
use Rattle.vd_base_codec.specs.Exact.{IsBreak, IsExact}
use Rattle.vd_base_codec.specs.Reading.{Reading, field, field_at}
use Rattle.vd_base_codec.proofs.Front.{AtMost, field_exact}
use Rattle.vd_deal_versions.proofs.Front.{digits_tell}
use Rattle.vd_hostcode.specs.declared.host_text.program.HostProgram.{HostProgram}
use Rattle.vd_cmd_host.specs.Marking.{mark_name}
use Rattle.vd_cmd_host.specs.Once.{IsMarkable, MarksStandByDeals, MarksTell, NamesAreApart}

-- ---- numbers

number_same : (m n : ℕ) → m < 2 ^ 64 → n < 2 ^ 64 → decimal m ≡ decimal n → m ≡ n
number_same m n small also is = sym (decimal_is_IsNumeral m small).1 ∙ ap (digits_value 10) is ∙ (decimal_is_IsNumeral n also).1

-- what is read exactly is one value, whatever stands behind
one_value : {X : Type 0} (Behind : List ℕ → Type 0) (Fits : X → Type 0) (text : X → List ℕ) (bytes : List ℕ) (reading : Reading X) → IsExact Behind Fits text bytes reading
    → (a b : X) (x y : List ℕ) → Fits a → Fits b → Behind x → Behind y → text a ++ x ≡ bytes → text b ++ y ≡ bytes → (a ≡ b) × (x ≡ y)
one_value {X} Behind Fits text bytes (Ok v) is a b x y fits also behind ends one other =
    let p = is.only a x v.1 fits behind (one ∙ is.split) refl in
    let q = is.only b y v.1 also ends (other ∙ is.split) refl in
    (p.0 ∙ sym q.0, p.1 ∙ sym q.1)
one_value {X} Behind Fits text bytes (Err left) is a b x y fits also behind ends one other = absurd (is.none a x left fits behind (one ∙ is.split) refl)

field_same : (m n : ℕ) (x y : List ℕ) → m < 2 ^ 64 → n < 2 ^ 64 → field m ++ 10 ∷ x ≡ field n ++ 10 ∷ y → (m ≡ n) × (10 ∷ x ≡ 10 ∷ y)
field_same m n x y small also is =
    one_value {X = ℕ} IsBreak (AtMost 18446744073709551615) field (field n ++ 10 ∷ y) (field_at 18446744073709551615 (field n ++ 10 ∷ y))
    (field_exact 18446744073709551615 (field n ++ 10 ∷ y) (omega arith)) m n (10 ∷ x) (10 ∷ y) (omega (arith, small)) (omega (arith, also)) (inr refl) (inr refl) is refl

-- ---- marks

front_bytes : (n : ℕ) (bs : List ℕ) → AllByRecursion IsByte bs → AllByRecursion IsByte (take n bs)
front_bytes zero bs bytes = tt
front_bytes (suc n) [] bytes = tt
front_bytes (suc n) (b ∷ bs) bytes = (bytes.0, front_bytes n bs bytes.1)

front_long : (n : ℕ) (a b : List ℕ) → length a ≡ length b → length (take n a) ≡ length (take n b)
front_long zero a b same = refl
front_long (suc n) [] [] same = refl
front_long (suc n) [] (d ∷ b) same = absurd (omega (arith, same))
front_long (suc n) (c ∷ a) [] same = absurd (omega (arith, same))
front_long (suc n) (c ∷ a) (d ∷ b) same = ap suc (front_long n a b (omega (arith, same)))

pub stand_by_deals : MarksStandByDeals
stand_by_deals words again id program other folders hosts =
    λ j. folders j ++ mark_name id (hosts j).0

pub names_apart : NamesAreApart
names_apart id other me you key also small fits is =
    let rest = digits_tell (take 16 id) (take 16 other) (codes "-" ++ decimal me) (codes "-" ++ decimal you) (front_long 16 id other (key.0 ∙ sym also.0))
    (front_bytes 16 id key.1) (front_bytes 16 other also.1)
    (append_cancel_left (codes "viaduct-used-") (key_text (take 16 id) ++ (codes "-" ++ decimal me)) (key_text (take 16 other) ++ (codes "-" ++ decimal you)) is) in
    (rest.0, number_same me you small fits (append_cancel_left (codes "-") (decimal me) (decimal you) rest.1))

-- what stands in a mark behind the number of its host
abbrev plan_line : HostProgram → List ℕ
plan_line program = codes "plan " ++ (key_text program.plan.bytes ++ codes "\n")

-- and behind the name of its dealing
abbrev host_lines : HostProgram → List ℕ
host_lines program = field program.me.0 ++ (codes "\nplan " ++ (key_text program.plan.bytes ++ codes "\n"))

pub marks_tell : MarksTell
marks_tell id other program again can also is =
    let dealing = digits_tell id other (codes "\nme" ++ host_lines program) (codes "\nme" ++ host_lines again) (can.0.0 ∙ sym also.0.0) can.0.1 also.0.1
    (append_cancel_left (codes "viaduct-used 1\nid ") (key_text id ++ (codes "\nme" ++ host_lines program)) (key_text other ++ (codes "\nme" ++ host_lines again)) is) in
    let lines = append_cancel_left (codes "\nme") (host_lines program) (host_lines again) dealing.1 in
    let host = field_same program.me.0 again.me.0 (plan_line program) (plan_line again) can.2 also.2 lines in
    let plan = digits_tell program.plan.bytes again.plan.bytes (codes "\n") (codes "\n") (can.1.0 ∙ sym also.1.0) can.1.1 also.1.1
    (append_cancel_left (codes "\nplan ") (key_text program.plan.bytes ++ codes "\n") (key_text again.plan.bytes ++ codes "\n") host.1) in
    record { dealing = dealing.0; host = host.0; plan = plan.0 }
