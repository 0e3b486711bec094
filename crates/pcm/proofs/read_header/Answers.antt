-- `pcm::read_header` meets its contract: at each return the tests passed so far pick the definition's case. Assumes nothing.
use Rattle.std.proofs.Common.{arith}
use Rattle.std.proofs.lemmas.Bool.Decides.{nat_tests}
use Rattle.pcm.specs.Header.{header_of}
use Rattle.pcm.proofs.read_header.Goals as goal

pub returns-then-bytes-lt-HEADER_LENGTH : goal.returns-then-bytes-lt-HEADER_LENGTH
unfolding header_of
returns-then-bytes-lt-HEADER_LENGTH c = grind (arith, nat_tests)

pub returns-then-not-known_version : goal.returns-then-not-known_version
unfolding header_of
returns-then-not-known_version c = grind (arith, nat_tests)

pub returns-then-not-in_limits : goal.returns-then-not-in_limits
unfolding header_of
returns-then-not-in_limits c = grind (arith, nat_tests)

pub returns : goal.returns
unfolding header_of
returns c = grind (arith, nat_tests)
