-- The lemmas that other crates cite.
pub use Rattle.vd_link.proofs.GreetingLaws.{no_greet_fault}
pub use Rattle.vd_link.proofs.Streams.{front_same, length_words, no_fault, one_reading, packet_same}
