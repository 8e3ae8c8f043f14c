-- What a fault says of the hello that came.
use Rattle.std.proofs.Common.{◌≡◌, ◌∙◌, ℕ, suc, List, [], ◌∷◌, ◌++◌, length, take, drop, ap, sym, arith, length-append}
use Rattle.std.proofs.Math.Seq.{take-length}
use Rattle.std.proofs.lemmas.List.{take-append-le}
use Rattle.vd_channel_crypto.specs.Hellos.{hello_bytes}
use Rattle.vd_channel_crypto.specs.declared.hellos.Hello.{Hello}
use Rattle.vd_channel_link.specs.ChannelHandshakeLaws.{HelloFaultsTell}
use Rattle.vd_channel_link.proofs.Agreeing.{front_of, hello_parts}

-- the first 34 bytes of a hello are its kind, its version and the name of the dealing
begins : (id more : List ℕ) → length id ≡ 32 → take 34 (0x47 ∷ 2 ∷ (id ++ more)) ≡ 0x47 ∷ 2 ∷ id
begins id more long =
    let size : length (0x47 ∷ 2 ∷ id) ≡ 34 = ap (λ (n : ℕ). suc (suc n)) long in
    take-append-le 34 (0x47 ∷ 2 ∷ id) more (omega (arith, size))
    ∙ ap (λ (n : ℕ). take n (0x47 ∷ 2 ∷ id)) (sym size)
    ∙ take-length (0x47 ∷ 2 ∷ id)

came : (theirs : Hello) (rest : List ℕ) → length theirs.id ≡ 32 → take 34 (hello_bytes theirs ++ rest) ≡ 0x47 ∷ 2 ∷ theirs.id
came theirs rest long =
    ap (take 34) (hello_parts theirs rest)
    ∙ take-append-le 34 (front_of theirs) (theirs.nonce ++ rest) (omega (arith, long, length-append theirs.id (theirs.from.0 ∷ theirs.to.0 ∷ [])))
    ∙ begins theirs.id (theirs.from.0 ∷ theirs.to.0 ∷ []) long

pub faults_tell : HelloFaultsTell
faults_tell mine theirs rest long others = (
  λ differ is. differ.other (came theirs rest others ∙ ap (λ (id : List ℕ). 0x47 ∷ 2 ∷ id) is ∙ sym (begins mine.id (mine.to.0 ∷ mine.from.0 ∷ []) long)),
  λ differ. ap (drop 2) (sym (came theirs rest others) ∙ differ.same ∙ begins mine.id (mine.to.0 ∷ mine.from.0 ∷ []) long),
)
