-- Why a line of a script, or a file that a tool is given, is refused: the number and the name that are printed.
use Rattle.std.specs.Prelude.{ℕ, List, codes}
use Rattle.snd_layout.specs.Names.{refusal_name as open_name, refusal_number as open_number}
use Rattle.snd_lines.specs.declared.refusal.Refusal.{Refusal}
use Rattle.snd_lines.specs.declared.refusal.Refusal.TheVariants.{Open, AdpcmUpdate, UnknownLength, PartFrame, SampleRange, SeekRange, TrailingData, ContainerFull, Straddle, FramesWritten, ReservedChunk, NoChunks, ChunkTooLarge, AutoOn, AdpcmSeek, NoSuchChunk, BadBlock, BadCommand, LineTooLong, NotOpen, AlreadyOpen, WrongMode, NoSuchTap, TapOn, SameName, MixedParams, NotMono, UnknownSuffix, MissingFile, NoRoom, BadInfo, BadCue, BadBext, TextTooLong, Pinned, NoSuchStage, BadPlace, WrongCount}

abbrev pub refusal_number : Refusal → ℕ
refusal_number (Open refusal) = open_number refusal
refusal_number AdpcmUpdate = 20
refusal_number UnknownLength = 21
refusal_number PartFrame = 22
refusal_number SampleRange = 23
refusal_number SeekRange = 24
refusal_number TrailingData = 25
refusal_number ContainerFull = 26
refusal_number Straddle = 27
refusal_number FramesWritten = 28
refusal_number ReservedChunk = 29
refusal_number NoChunks = 30
refusal_number ChunkTooLarge = 31
refusal_number AutoOn = 32
refusal_number AdpcmSeek = 33
refusal_number NoSuchChunk = 34
refusal_number BadBlock = 35
refusal_number BadCommand = 40
refusal_number LineTooLong = 41
refusal_number NotOpen = 42
refusal_number AlreadyOpen = 43
refusal_number WrongMode = 44
refusal_number NoSuchTap = 45
refusal_number TapOn = 46
refusal_number SameName = 50
refusal_number MixedParams = 51
refusal_number NotMono = 52
refusal_number UnknownSuffix = 54
refusal_number MissingFile = 56
refusal_number NoRoom = 60
refusal_number BadInfo = 61
refusal_number BadCue = 62
refusal_number BadBext = 63
refusal_number TextTooLong = 64
refusal_number Pinned = 65
refusal_number NoSuchStage = 66
refusal_number BadPlace = 67
refusal_number WrongCount = 68

abbrev pub refusal_name : Refusal → List ℕ
refusal_name (Open refusal) = open_name refusal
refusal_name AdpcmUpdate = codes "AdpcmUpdate"
refusal_name UnknownLength = codes "UnknownLength"
refusal_name PartFrame = codes "PartFrame"
refusal_name SampleRange = codes "SampleRange"
refusal_name SeekRange = codes "SeekRange"
refusal_name TrailingData = codes "TrailingData"
refusal_name ContainerFull = codes "ContainerFull"
refusal_name Straddle = codes "Straddle"
refusal_name FramesWritten = codes "FramesWritten"
refusal_name ReservedChunk = codes "ReservedChunk"
refusal_name NoChunks = codes "NoChunks"
refusal_name ChunkTooLarge = codes "ChunkTooLarge"
refusal_name AutoOn = codes "AutoOn"
refusal_name AdpcmSeek = codes "AdpcmSeek"
refusal_name NoSuchChunk = codes "NoSuchChunk"
refusal_name BadBlock = codes "BadBlock"
refusal_name BadCommand = codes "BadCommand"
refusal_name LineTooLong = codes "LineTooLong"
refusal_name NotOpen = codes "NotOpen"
refusal_name AlreadyOpen = codes "AlreadyOpen"
refusal_name WrongMode = codes "WrongMode"
refusal_name NoSuchTap = codes "NoSuchTap"
refusal_name TapOn = codes "TapOn"
refusal_name SameName = codes "SameName"
refusal_name MixedParams = codes "MixedParams"
refusal_name NotMono = codes "NotMono"
refusal_name UnknownSuffix = codes "UnknownSuffix"
refusal_name MissingFile = codes "MissingFile"
refusal_name NoRoom = codes "NoRoom"
refusal_name BadInfo = codes "BadInfo"
refusal_name BadCue = codes "BadCue"
refusal_name BadBext = codes "BadBext"
refusal_name TextTooLong = codes "TextTooLong"
refusal_name Pinned = codes "Pinned"
refusal_name NoSuchStage = codes "NoSuchStage"
refusal_name BadPlace = codes "BadPlace"
refusal_name WrongCount = codes "WrongCount"
