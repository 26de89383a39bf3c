-- Digests of bytes that were read.
use Rattle.std.proofs.Common.{◌≡◌, ℕ, List, Option, ap, ◌∙◌}
use Rattle.sha2.specs.Sha256.{sha256}
use Rattle.fedrun_files.specs.Contents.{AreBytesOf}
use Rattle.fedrun_files.specs.Digests.{AreDigestsOf}

-- digests of the bytes that were read are those of the files
pub are_digests : (federation inputs : Option (List ℕ)) (of_federation of_inputs first second read_first read_second : List ℕ) → AreBytesOf federation first →
    AreBytesOf inputs second → read_first ≡ first → read_second ≡ second → of_federation ≡ sha256 read_first → of_inputs ≡ sha256 read_second →
    AreDigestsOf federation inputs of_federation of_inputs
are_digests federation inputs of_federation of_inputs first second read_first read_second are_first are_second same_first same_second first_is second_is = record {
  federation_is = (first, are_first, first_is ∙ ap sha256 same_first);
  inputs_are = (second, are_second, second_is ∙ ap sha256 same_second);
}
