-- Hexadecimal digits are read exactly.
use Rattle.std.proofs.Common.{◌≡◌, ℕ, zero, suc, ◌+◌, ◌-◌, ◌*◌, ◌/◌, ◌%◌, ◌<◌, ◌≤◌, Bool, true, false, cond, ◌&&◌, List, [], ◌∷◌, ◌++◌, length, Option, Some, None, Ok, refl, sym, ap, ◌∙◌, arith}
use Rattle.std.specs.Prelude.{nat_le}
use Rattle.std.specs.List.{flat_map}
use Rattle.std.proofs.lemmas.Bool.{and_parts, leb-true, lt-ltb, le-ltb}
use Rattle.vd_base_codec.specs.Reading.{first, ◌>>=◌, each_at}
use Rattle.vd_base_codec.specs.Exact.{IsAnything, IsExact}
use Rattle.vd_base_codec.proofs.Parts.{done_exact, Picks, then_exact, AreEach, each_exact}
use Rattle.vd_base_codec.specs.Digits.{hex_digit, hex_byte, hex_value, with_digit, digit_at, hex_at, key_at, key_text, IsByte, IsKey}

-- ---- digits

decimal_digit : (x b : ℕ) → x < 10 → 48 + x ≡ b → hex_digit x ≡ b
decimal_digit x b h e = rw (lt-ltb x 10 h) e

letter_digit : (x b : ℕ) → 10 ≤ x → 87 + x ≡ b → hex_digit x ≡ b
letter_digit x b h e = rw (le-ltb x 10 h) e

letter_there : (b x : ℕ) (t : Bool) → (nat_le 97 b && nat_le b 102) ≡ t → cond t (Some (b - 87)) None ≡ Some x → (x < 16) × (hex_digit x ≡ b)
letter_there b x true e is =
    let p = and_parts (nat_le 97 b) (nat_le b 102) e in
    let low = leb-true 97 b p.0 in
    let high = leb-true b 102 p.1 in
    let same : b - 87 ≡ x = cc in
    (omega (arith, low, high, same), letter_digit x b (omega (arith, low, high, same)) (omega (arith, low, high, same)))
letter_there b x false e is = absurd cc

digit_there : (b x : ℕ) (t : Bool) → (nat_le 48 b && nat_le b 57) ≡ t → cond t (Some (b - 48)) (cond (nat_le 97 b && nat_le b 102) (Some (b - 87)) None) ≡ Some x → (x < 16) × (hex_digit x ≡ b)
digit_there b x true e is =
    let p = and_parts (nat_le 48 b) (nat_le b 57) e in
    let low = leb-true 48 b p.0 in
    let high = leb-true b 57 p.1 in
    let same : b - 48 ≡ x = cc in
    (omega (arith, low, high, same), decimal_digit x b (omega (arith, low, high, same)) (omega (arith, low, high, same)))
digit_there b x false e is = letter_there b x (nat_le 97 b && nat_le b 102) refl is

hex_back : (d : ℕ) → d < 16 → hex_value (hex_digit d) ≡ Some d
hex_back zero h = refl
hex_back (suc zero) h = refl
hex_back (suc (suc zero)) h = refl
hex_back (suc (suc (suc zero))) h = refl
hex_back (suc (suc (suc (suc zero)))) h = refl
hex_back (suc (suc (suc (suc (suc zero))))) h = refl
hex_back (suc (suc (suc (suc (suc (suc zero)))))) h = refl
hex_back (suc (suc (suc (suc (suc (suc (suc zero))))))) h = refl
hex_back (suc (suc (suc (suc (suc (suc (suc (suc zero)))))))) h = refl
hex_back (suc (suc (suc (suc (suc (suc (suc (suc (suc zero))))))))) h = refl
hex_back (suc (suc (suc (suc (suc (suc (suc (suc (suc (suc zero)))))))))) h = refl
hex_back (suc (suc (suc (suc (suc (suc (suc (suc (suc (suc (suc zero))))))))))) h = refl
hex_back (suc (suc (suc (suc (suc (suc (suc (suc (suc (suc (suc (suc zero)))))))))))) h = refl
hex_back (suc (suc (suc (suc (suc (suc (suc (suc (suc (suc (suc (suc (suc zero))))))))))))) h = refl
hex_back (suc (suc (suc (suc (suc (suc (suc (suc (suc (suc (suc (suc (suc (suc zero)))))))))))))) h = refl
hex_back (suc (suc (suc (suc (suc (suc (suc (suc (suc (suc (suc (suc (suc (suc (suc zero))))))))))))))) h = refl
hex_back (suc (suc (suc (suc (suc (suc (suc (suc (suc (suc (suc (suc (suc (suc (suc (suc d)))))))))))))))) h = absurd (omega (arith, h))

abbrev digit_text : ℕ → List ℕ
digit_text d = hex_digit d ∷ []

abbrev IsHex : ℕ → Type 0
IsHex d = d < 16

there : (b x : ℕ) → hex_value b ≡ Some x → (x < 16) × (hex_digit x ≡ b)
there b x e = digit_there b x (nat_le 48 b && nat_le b 57) refl e

digit_by : (b : ℕ) (bs : List ℕ) (r : Option ℕ) → hex_value b ≡ r → IsExact IsAnything IsHex digit_text (b ∷ bs) (with_digit b bs r)
digit_by b bs None e = record {
  taken = [];
  split = refl;
  begun = 0;
  fits = omega arith;
  rest = digit_text 0;
  begins = refl;
  none = λ y behind more h k s g.
      let one : Some (hex_digit y) ≡ Some b = ap first s ∙ g in
      let same : hex_digit y ≡ b = cc in
      let both : Some y ≡ None = sym (hex_back y h) ∙ ap hex_value same ∙ e in
      cc;
}
digit_by b bs (Some x) e =
    let h = there b x e in
    record {
      fits = h.0;
      split = ap (λ c. c ∷ bs) (sym h.1);
      only = λ y behind more k l s g.
          let same : hex_digit y ≡ hex_digit x = cc in
          let both : Some y ≡ Some x = sym (hex_back y k) ∙ ap hex_value same ∙ hex_back x h.0 in
          let one : y ≡ x = cc in
          let over : behind ≡ more = cc in
          (one, over);
    }

digit_exact : (bytes : List ℕ) → IsExact IsAnything IsHex digit_text bytes (digit_at bytes)
digit_exact [] = record {
  taken = [];
  split = refl;
  begun = 0;
  fits = omega arith;
  rest = digit_text 0;
  begins = refl;
  none = λ y behind more h k s g. let one : Some (hex_digit y) ≡ None = ap first s ∙ g in cc;
}
digit_exact (b ∷ bs) = digit_by b bs (hex_value b) refl

-- ---- bytes

picks_high : Picks IsAnything IsHex digit_text IsAnything IsByte hex_byte (λ b. digit_text (b % 16)) (λ b. b / 16)
unfolding hex_byte
picks_high = record {
  part_fits = λ b h. omega (arith, h);
  split = λ b h. refl;
  some = λ d h. (d * 16, (omega (arith, h), omega (arith, h)));
  break = λ b behind h k. tt;
}

picks_low : (high : ℕ) → IsHex high → Picks IsAnything IsHex digit_text IsAnything (λ b. IsByte b × (b / 16 ≡ high)) (λ b. digit_text (b % 16)) (λ _. []) (λ b. b % 16)
picks_low high fits = record {
  part_fits = λ b h. omega arith;
  split = λ b h. refl;
  some = λ d h. (high * 16 + d, ((omega (arith, h, fits), omega (arith, h, fits)), omega (arith, h, fits)));
  break = λ b behind h k. tt;
}

hex_exact : (bytes : List ℕ) → IsExact IsAnything IsByte hex_byte bytes (hex_at bytes)
unfolding hex_at
hex_exact bytes =
    then_exact IsAnything IsHex digit_text IsAnything IsByte hex_byte (λ b. digit_text (b % 16)) (λ b. b / 16) picks_high bytes (digit_at bytes)
    (λ high. digit_at high.1 >>= λ low. Ok (high.0 * 16 + low.0, low.1)) (digit_exact bytes)
    (λ high mid h.
    then_exact IsAnything IsHex digit_text IsAnything (λ b. IsByte b × (b / 16 ≡ high)) (λ b. digit_text (b % 16)) (λ _. []) (λ b. b % 16) (picks_low high h) mid (digit_at mid)
    (λ low. Ok (high * 16 + low.0, low.1)) (digit_exact mid)
    (λ low over l.
    done_exact IsAnything (λ b. (IsByte b × (b / 16 ≡ high)) × (b % 16 ≡ low)) (high * 16 + low) over ((omega (arith, h, l), omega (arith, h, l)), omega (arith, h, l)) (λ b g. omega (arith, g.0.1, g.1))))

-- ---- keys

some_bytes : (m : ℕ) → (bs : List ℕ) × AreEach IsByte m bs
some_bytes zero = ([], (refl, tt))
some_bytes (suc m) = let rest = some_bytes m in (0 ∷ rest.0, (ap suc rest.1.0, (omega arith, rest.1.1)))

pub some_key : (key : List ℕ) × IsKey key
some_key = some_bytes 32

pub key_exact : (bytes : List ℕ) → IsExact IsAnything IsKey key_text bytes (key_at bytes)
key_exact bytes = each_exact IsAnything IsByte hex_byte 0 hex_at 32 bytes (λ b bs. tt) some_bytes hex_exact
