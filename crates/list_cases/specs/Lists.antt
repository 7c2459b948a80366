-- Cases of lists of requests: a queue's, a batch's, and what the program prints. Each text that the program prints for a plant is there.
use Rattle.std.specs.Prelude.{ℕ, ◌+◌, ◌-◌, ◌&&◌, List, [], ◌∷◌, ◌++◌, eqb, length, replicate}
use Prim.Native.String.{String}
use Rattle.std.proofs.Math.ListN as ListN
use Rattle.rules.specs.declared.Monitor.{Monitor}
use Rattle.calls.specs.declared.Request.{Request}
use Rattle.queue.specs.Queue.{queue_of, queue_out}
use Rattle.outcome.specs.Batch.{request_count, batch_refusal, batch_out}
use Rattle.printing.specs.Text.{codes}
use Rattle.printing.specs.Printed.{printed}
use Rattle.inputs.specs.Case.{Case, same_list}
use Rattle.inputs.specs.Plants.{session, renumbered, with1, with2, flat, padded, rising, narrow}
use Rattle.record_cases.specs.Records.{record20}
use Rattle.call_cases.specs.CallCases.{opened}
use Rattle.list_cases.specs.RequestLists.{request_bytes, every_kind, both_skids, far_numbers, last_numbers, narrow_requests, three_requests, two_sets, start_and_gate}

-- a record, requests and a buffer: the queue's number, and the buffer after it
unfoldable pub queue : Monitor → List Request → List ℕ → ℕ → List ℕ → Case
queue m rs out number bytes = eqb (queue_of m rs out).answer number && same_list (queue_out m rs out) bytes

-- a plant file, request bytes, a buffer's length, and the number that refuses the batch
unfoldable pub refused : List ℕ → List ℕ → ℕ → ℕ → Case
refused file requests room number = eqb (batch_refusal file requests room) number

-- a buffer of just the room that so many requests ask for, every byte 170
abbrev pub buffer : List ℕ → List ℕ
buffer requests = replicate (request_count requests + 577) 170

-- a plant file, request bytes and the bytes that the batch writes
unfoldable pub batch : List ℕ → List ℕ → List ℕ → Case
batch file requests bytes =
    eqb (batch_refusal file requests (length (buffer requests))) 0
    && same_list (batch_out file requests (buffer requests)) (bytes ++ replicate (length (buffer requests) - length bytes) 170)

-- the program's input, and the text that it prints
unfoldable pub prints : List ℕ → String → Case
prints input text = same_list (printed input) (codes text)

unfoldable pub queue_cases : List Case
queue_cases =
    -- a queue: served, 31 for a buffer one byte short, and 20 before it
    queue (opened session) three_requests (7 ∷ 7 ∷ 7 ∷ 7 ∷ []) 0 (0 ∷ 32 ∷ 0 ∷ 7 ∷ [])
    ∷ queue (opened session) three_requests (7 ∷ 7 ∷ []) 31 (7 ∷ 7 ∷ [])
    ∷ queue (record20 0 3 0 0 0 0) three_requests (7 ∷ 7 ∷ []) 20 (7 ∷ 7 ∷ [])
    -- a queue with a byte for each answer and no more, and one without requests
    ∷ queue (opened session) three_requests (7 ∷ 7 ∷ 7 ∷ []) 0 (0 ∷ 32 ∷ 0 ∷ [])
    ∷ queue (opened session) [] [] 0 []
    -- the record that a queue hands back, after its requests and after a refusal
    ∷ queue (queue_of (opened session) two_sets (7 ∷ 7 ∷ [])).monitor start_and_gate (7 ∷ 7 ∷ []) 0 (0 ∷ 0 ∷ [])
    ∷ queue (queue_of (opened session) two_sets (7 ∷ [])).monitor start_and_gate (7 ∷ 7 ∷ []) 0 (27 ∷ 33 ∷ [])
    ∷ []

unfoldable pub batch_cases : List Case
batch_cases =
    -- a batch: a cut request, a buffer one byte short, and the plant before both
    refused session (1 ∷ []) 0 34
    ∷ refused session request_bytes 586 31
    ∷ refused (with1 0 2) (1 ∷ []) 0 2
    -- every kind of request, by its bytes
    ∷ batch session every_kind (0 ∷ 0 ∷ 0 ∷ 0 ∷ 0 ∷ 0 ∷ 0 ∷ 0 ∷ 33 ∷ 32 ∷ 32 ∷ 3 ∷ 0 ∷ 0 ∷ 0 ∷ 0 ∷ 2 ∷ 0 ∷ 0 ∷ 2 ∷ 2 ∷ [])
    -- the order of the list of rights, over two skids; tank 0 is of group 1 and tank 2 of group 0
    ∷ batch renumbered both_skids (0 ∷ 0 ∷ 32 ∷ 0 ∷ 0 ∷ 0 ∷ 4 ∷ 0 ∷ 0 ∷ 0 ∷ 0 ∷ 0 ∷ 2 ∷ 0 ∷ 2 ∷ 0 ∷ 1 ∷ 3 ∷ 1 ∷ [])
    -- and the skid before the tank: skid 1's tank has a lower number than one of skid 0's
    ∷ batch session both_skids (0 ∷ 0 ∷ 32 ∷ 0 ∷ 0 ∷ 0 ∷ 4 ∷ 0 ∷ 0 ∷ 0 ∷ 0 ∷ 2 ∷ 0 ∷ 0 ∷ 2 ∷ 2 ∷ 1 ∷ 1 ∷ 1 ∷ [])
    -- all three rights on one tank
    ∷ batch (with1 120 7) (0 ∷ 0 ∷ 1 ∷ 0 ∷ 0 ∷ 1 ∷ 0 ∷ 1 ∷ 0 ∷ 0 ∷ []) (0 ∷ 0 ∷ 3 ∷ 0 ∷ 0 ∷ 0 ∷ 0 ∷ 0 ∷ 1 ∷ 0 ∷ 0 ∷ 2 ∷ [])
    -- the last skid's rights in the list
    ∷ batch (ListN.set rising 144 32) (0 ∷ 4 ∷ 5 ∷ 1 ∷ 1 ∷ 1 ∷ 4 ∷ 5 ∷ 0 ∷ 0 ∷ []) (0 ∷ 0 ∷ 1 ∷ 4 ∷ 0 ∷ 1 ∷ [])
    -- the lowest number is the tank's and not its level's: tanks 2 and 3 at levels 2 and 1, both nearest for 3
    ∷ batch (with2 105 2 107 1) (0 ∷ 0 ∷ 0 ∷ 0 ∷ 1 ∷ 0 ∷ 0 ∷ 0 ∷ 1 ∷ 3 ∷ 1 ∷ 0 ∷ 0 ∷ 0 ∷ 0 ∷ []) (0 ∷ 0 ∷ 0 ∷ 3 ∷ 0 ∷ 0 ∷ 0 ∷ 0 ∷ 2 ∷ 0 ∷ 0 ∷ 2 ∷ 2 ∷ [])
    -- numbers far past the counts, and sets of which no rule asks more; the last skid and the one past it, and 27 and 28 of the last group, where the counts rise
    ∷ batch session far_numbers (21 ∷ 22 ∷ 23 ∷ 21 ∷ 22 ∷ 21 ∷ 21 ∷ 29 ∷ 30 ∷ 0 ∷ 0 ∷ 0 ∷ [])
    ∷ batch rising last_numbers (0 ∷ 21 ∷ 33 ∷ 21 ∷ 27 ∷ 0 ∷ 28 ∷ 0 ∷ [])
    -- and where they fall
    ∷ batch narrow narrow_requests (21 ∷ 22 ∷ 23 ∷ 24 ∷ 21 ∷ 21 ∷ 27 ∷ 0 ∷ 25 ∷ 0 ∷ 29 ∷ 0 ∷ 33 ∷ 1 ∷ 1 ∷ 2 ∷ 0 ∷ [])
    ∷ []

unfoldable pub print_cases : List Case
print_cases =
    -- what the program prints of cut requests, and of a plant that is refused before they are looked at
    prints (session ++ (1 ∷ [])) "requests 34\n"
    ∷ prints (padded 300 ++ (1 ∷ [])) "requests 34\n"
    ∷ prints (with1 0 2 ++ (1 ∷ [])) "plant 2\n"
    -- of input that ends before the header or the plant does: 23 of 24 bytes, 131 of 132, 299 of 300
    ∷ prints [] "plant 1\n"
    ∷ prints (ListN.take 23 session) "plant 1\n"
    ∷ prints (ListN.take 131 session) "plant 1\n"
    ∷ prints (ListN.take 299 (padded 300)) "plant 1\n"
    -- of a plant alone, of one of more than 255 bytes, and of one that says 131 of the input's 132 bytes, so that its last section ends past it
    ∷ prints session "held 0\n"
    ∷ prints (padded 300 ++ (2 ∷ 1 ∷ 0 ∷ 0 ∷ 0 ∷ [])) "1 0\nheld 0\n"
    ∷ prints (with1 20 131) "plant 5\n"
    -- the longest input that is taken, and one byte more
    ∷ prints (replicate 65536 0) "plant 1\n"
    ∷ prints (replicate 65537 0) "long\n"
    ∷ []

unfoldable pub refusal_cases : List Case
refusal_cases =
    -- what the program prints of each of opening's numbers; the first two files say 23 and 4,097 bytes, which are all there
    prints (with1 20 23) "plant 1\n"
    ∷ prints (padded 4097) "plant 1\n"
    ∷ prints (with1 0 2) "plant 2\n"
    ∷ prints (with1 4 65) "plant 3\n"
    ∷ prints (with1 7 1) "plant 4\n"
    ∷ prints (with1 18 129) "plant 5\n"
    ∷ prints (with1 10 91) "plant 6\n"
    ∷ prints (with1 25 1) "plant 7\n"
    ∷ prints (with1 28 4) "plant 8\n"
    ∷ prints flat "plant 9\n"
    ∷ prints (with1 93 1) "plant 10\n"
    ∷ prints (with1 103 0) "plant 11\n"
    ∷ prints (with1 108 1) "plant 12\n"
    ∷ []

unfoldable pub cases_of_lists : List (List Case)
cases_of_lists = queue_cases ∷ batch_cases ∷ print_cases ∷ refusal_cases ∷ []
