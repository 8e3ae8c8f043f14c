-- No more goes out than an end says first.
use Rattle.std.proofs.Common.{◌≡◌, ◌∙◌, ◌+◌, ℕ, zero, suc, IsTrue, List, [], ◌∷◌, ◌++◌, length, take, ap, sym, refl, arith, append_assoc}
use Rattle.std.proofs.Math.Seq.{take-append-add, take-length}
use Rattle.std.proofs.lemmas.List.{length-take, take-append-le}
use Rattle.vd_outside.specs.Link.{LinkView}
use Rattle.vd_channel_crypto.specs.Hellos.{digest_between, hello_bytes, link_direction}
use Rattle.vd_channel_crypto.specs.Records.{Direction, sealed}
use Rattle.vd_channel_crypto.specs.declared.hellos.Hello.{Hello}
use Rattle.vd_channel_link.specs.Meeting.{SaysNoMore, SendsNoMore}

front_again : (count : ℕ) (xs : List ℕ) → take (length (take count xs)) xs ≡ take count xs
front_again zero xs = refl
front_again (suc count) [] = refl
front_again (suc count) (x ∷ xs) = ap (λ (l : List ℕ). x ∷ l) (front_again count xs)

-- a front of some bytes is one of these with others behind them
front_of_more : (count : ℕ) (xs ys : List ℕ) → take (length (take count xs)) (xs ++ ys) ≡ take count xs
front_of_more count xs ys =
    take-append-le (length (take count xs)) xs ys (omega (arith, length-take count xs)) ∙ front_again count xs

-- all of them went out, and nothing behind them
pub all_out : (bytes : List ℕ) (before mid now : LinkView) → (IsTrue now.told → IsTrue mid.told) → (IsTrue mid.told → mid.sent ≡ before.sent ++ bytes)
    → (IsTrue now.told → now.sent ≡ mid.sent) → SendsNoMore bytes before now
all_out bytes before mid now told sent same t =
    (length bytes, same t ∙ sent (told t) ∙ ap (λ (l : List ℕ). before.sent ++ l) (sym (take-length bytes)))

pub hello_alone : (mine : Hello) (key : List ℕ) (before now : LinkView) → SendsNoMore (hello_bytes mine) before now → IsTrue now.told → SaysNoMore mine key before now
hello_alone mine key before now out told =
    let so = out told in
    let proof = sealed (link_direction key mine.from.0 (digest_between mine mine)) 0 [] in
    record {
      theirs = mine;
      count = length (take so.0 (hello_bytes mine));
      sent = so.1 ∙ ap (λ (l : List ℕ). before.sent ++ l) (sym (front_of_more so.0 (hello_bytes mine) proof));
    }

pub then_proof : (mine theirs : Hello) (key : List ℕ) (own : Direction) (before mid now : LinkView) → own ≡ link_direction key mine.from.0 (digest_between mine theirs)
    → (IsTrue now.told → IsTrue mid.told) → (IsTrue mid.told → mid.sent ≡ before.sent ++ hello_bytes mine) → SendsNoMore (sealed own 0 []) mid now → IsTrue now.told → SaysNoMore mine key before now
then_proof mine theirs key own before mid now keys told hello out t =
    let so = out t in
    let proof = sealed (link_direction key mine.from.0 (digest_between mine theirs)) 0 [] in
    record {
      theirs = theirs;
      count = length (hello_bytes mine) + so.0;
      sent =
          so.1
          ∙ ap (λ (l : List ℕ). l ++ take so.0 (sealed own 0 [])) (hello (told t))
          ∙ ap (λ (d : Direction). (before.sent ++ hello_bytes mine) ++ take so.0 (sealed d 0 [])) keys
          ∙ append_assoc before.sent (hello_bytes mine) (take so.0 proof)
          ∙ ap (λ (l : List ℕ). before.sent ++ l) (sym (take-append-add (hello_bytes mine) proof so.0));
    }
