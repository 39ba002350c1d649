-- What the program writes (docs/RULES.md, "The job program").
use Rattle.std.specs.Prelude.{ℕ, ◌≤◌, List, [], ◌∷◌, ◌++◌, length, take, Result, Ok, Err, IfOk}
use Rattle.number.specs.BigEndian.{enc}

-- a two-byte mark, a 4-byte length, a payload
abbrev pub framed : ℕ → ℕ → List ℕ → List ℕ
framed a b payload = a ∷ b ∷ (enc 4 (length payload) ++ payload)

-- OK and the bytes
unfoldable pub accepted : List ℕ → List ℕ
accepted bytes = framed 0x4F 0x4B bytes

-- NO and one byte: the number
unfoldable pub refused : ℕ → List ℕ
refused number = framed 0x4E 0x4F (number ∷ [])

-- ---- the same of a reply, which has the result's length or the number

-- the mark and the length
unfoldable pub head_of : Result ℕ ℕ → List ℕ
head_of (Ok n) = 0x4F ∷ 0x4B ∷ enc 4 n
head_of (Err number) = 0x4E ∷ 0x4F ∷ enc 4 1

-- so many bytes of the work buffer, or the number
unfoldable pub payload_of : Result ℕ ℕ → List ℕ → List ℕ
payload_of (Ok n) buffer = take n buffer
payload_of (Err number) buffer = number ∷ []

-- what a reply writes
unfoldable pub written_by : Result ℕ ℕ → List ℕ → List ℕ
written_by r buffer = head_of r ++ payload_of r buffer

-- the bytes that are written lie within the work buffer
abbrev pub Parts : Result ℕ ℕ → List ℕ → Type 0
Parts r buffer = IfOk r (λ n. n ≤ length buffer)
