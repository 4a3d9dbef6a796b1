-- Histories that an independent program played: segments, times and calls at random.
use Rattle.std.proofs.Common.{◌≡◌, true, false, [], ◌∷◌, ◌++◌, Some, None, replicate, refl}
use Rattle.spec_tcp.specs.declared.state.State.TheVariants.{Established, FinWait1, FinWait2, CloseWait, Closing, LastAck, TimeWait, Broken}
use Rattle.spec_tcp.specs.Arrival.{arrive}
use Rattle.spec_tcp.specs.Emission.{emitted, after_emission}
use Rattle.spec_tcp.specs.Opening.{open_active, open_passive}
use Rattle.spec_tcp.specs.Acts.{Opens, Arrives, Ticks, Commits, Takes, Shuts, Closes, Aborts, at}
use Rattle.spec_tcp.proofs.Play.{play, seg, goes, told, shown, mine, peer}

pub case_40 : shown (play (
    at 0 Opens ∷ at 0 (Arrives (seg 1190216048 2147649062 18 0 (Some 2000) [])) ∷ at 1000 Ticks
    ∷ at 1000 (Arrives (seg 1190216048 165415 18 300 (Some 2000) [])) ∷ at 1000 (Arrives (seg 1190216009 2574090647 17 30 None []))
    ∷ at 1000 (Arrives (seg 1190216049 165415 24 0 None (95 ∷ 228 ∷ 55 ∷ 212 ∷ 97 ∷ [])))
    ∷ at 1007 (Arrives (seg 1190216310 165415 24 0 None (95 ∷ 28 ∷ 120 ∷ 109 ∷ []))) ∷ at 1007 (Commits (replicate 1 155))
    ∷ at 1307 (Arrives (seg 1190216014 165415 24 500 None [])) ∷ at 1307 (Arrives (seg 1190216310 4224362695 17 65535 None []))
    ∷ at 1307 (Commits (replicate 150 164)) ∷ at 1307 (Arrives (seg 1190216014 165415 16 0 None (replicate 300 51)))
    ∷ at 1308 (Arrives (seg 1190216053 165415 24 0 None (replicate 140 228))) ∷ at 1308 Shuts
    ∷ at 1308 (Arrives (seg 1190216304 165414 24 0 None (159 ∷ 253 ∷ 41 ∷ 44 ∷ 116 ∷ 3 ∷ 26 ∷ 222 ∷ 135 ∷ 226 ∷ 112 ∷ 47 ∷ 254 ∷ 25 ∷ 239 ∷ 221
    ∷ 110 ∷ 145 ∷ 214 ∷ 159 ∷ [])))
    ∷ at 2007 Ticks ∷ at 4007 Ticks ∷ at 8007 Ticks ∷ at 16007 Ticks ∷ at 32007 Ticks ∷ at 64007 Ticks ∷ at 124007 Ticks ∷ at 184007 Ticks
    ∷ at 184007 (Arrives (seg 1190216193 165415 18 100 None [])) ∷ at 244007 Ticks ∷ at 304007 Ticks ∷ at 364007 Ticks ∷ at 424007 Ticks
    ∷ at 484007 Ticks ∷ at 484007 (Arrives (seg 1190216193 165415 18 100 None [])) ∷ at 544007 Ticks ∷ at 604007 Ticks ∷ at 664007 Ticks
    ∷ at 724007 Ticks ∷ at 784007 Ticks ∷ at 844007 Ticks ∷ at 844007 (Arrives (seg 1190216193 165415 18 100 None [])) ∷ at 844007 (Takes 128)
    ∷ at 844307 (Takes 128) ∷ at 844607 Closes ∷ at 844907 (Arrives (seg 1190216188 165416 24 500 None (replicate 70 97)))
    ∷ at 844907 (Arrives (seg 1190216519 3707793043 16 500 None [])) ∷ at 844907 (Arrives (seg 1190216218 165414 20 0 None (replicate 70 233)))
    ∷ at 844907 (Arrives (seg 1190216258 165416 24 100 None [])) ∷ [])
    (open_active mine peer 165414 256 256))
    ≡ told FinWait1 2 2 0 [] 210 256 (Some 845907) false (
    (goes 165414 0 2 256 (Some 1460) [] ∷ []) ∷ (goes 2147649062 0 4 0 None [] ∷ []) ∷ (goes 165414 0 2 256 (Some 1460) [] ∷ [])
    ∷ (goes 165415 1190216049 16 256 None [] ∷ []) ∷ (goes 165415 1190216049 16 256 None [] ∷ []) ∷ (goes 165415 1190216054 16 251 None [] ∷ [])
    ∷ (goes 165415 1190216054 16 251 None [] ∷ []) ∷ [] ∷ (goes 165415 1190216054 16 251 None [] ∷ [])
    ∷ (goes 165415 1190216054 16 251 None [] ∷ []) ∷ [] ∷ (goes 165415 1190216054 16 251 None [] ∷ [])
    ∷ (goes 165415 1190216193 16 112 None [] ∷ []) ∷ [] ∷ (goes 165415 1190216193 16 112 None [] ∷ [])
    ∷ (goes 165415 1190216193 16 112 None (155 ∷ []) ∷ []) ∷ (goes 165415 1190216193 16 112 None (155 ∷ []) ∷ [])
    ∷ (goes 165415 1190216193 16 112 None (155 ∷ []) ∷ []) ∷ (goes 165415 1190216193 16 112 None (155 ∷ []) ∷ [])
    ∷ (goes 165415 1190216193 16 112 None (155 ∷ []) ∷ []) ∷ (goes 165415 1190216193 16 112 None (155 ∷ []) ∷ [])
    ∷ (goes 165415 1190216193 16 112 None (155 ∷ []) ∷ []) ∷ (goes 165415 1190216193 16 112 None (155 ∷ []) ∷ [])
    ∷ (goes 165416 1190216193 16 112 None [] ∷ []) ∷ (goes 165415 1190216193 16 112 None (155 ∷ []) ∷ [])
    ∷ (goes 165415 1190216193 16 112 None (155 ∷ []) ∷ []) ∷ (goes 165415 1190216193 16 112 None (155 ∷ []) ∷ [])
    ∷ (goes 165415 1190216193 16 112 None (155 ∷ []) ∷ []) ∷ (goes 165415 1190216193 16 112 None (155 ∷ []) ∷ [])
    ∷ (goes 165416 1190216193 16 112 None [] ∷ []) ∷ (goes 165415 1190216193 16 112 None (155 ∷ []) ∷ [])
    ∷ (goes 165415 1190216193 16 112 None (155 ∷ []) ∷ []) ∷ (goes 165415 1190216193 16 112 None (155 ∷ []) ∷ [])
    ∷ (goes 165415 1190216193 16 112 None (155 ∷ []) ∷ []) ∷ (goes 165415 1190216193 16 112 None (155 ∷ []) ∷ [])
    ∷ (goes 165415 1190216193 16 112 None (155 ∷ []) ∷ []) ∷ (goes 165416 1190216193 16 112 None [] ∷ [])
    ∷ (goes 165416 1190216193 16 240 None [] ∷ []) ∷ [] ∷ [] ∷ (goes 165416 1190216258 16 256 None [] ∷ [])
    ∷ (goes 165416 1190216258 16 256 None [] ∷ []) ∷ (goes 165416 1190216258 16 256 None [] ∷ []) ∷ [] ∷ [])
unfolding arrive emitted after_emission
case_40 = refl

pub case_41 : shown (play (
    at 0 Opens ∷ at 0 (Arrives (seg 4 90261 16 0 None [])) ∷ at 1 (Arrives (seg 14 2774242282 16 0 None []))
    ∷ at 301 (Arrives (seg 4 90261 2 65535 None (replicate 128 217))) ∷ at 301 (Arrives (seg 4294967260 90261 16 100 None (replicate 300 112)))
    ∷ at 301 (Commits (replicate 300 48))
    ∷ at 601 (Commits (204 ∷ 120 ∷ 212 ∷ 236 ∷ 148 ∷ 141 ∷ 203 ∷ 17 ∷ 221 ∷ 155 ∷ 102 ∷ 176 ∷ 94 ∷ 87 ∷ 17 ∷ 167 ∷ 205 ∷ 29 ∷ 240 ∷ 25 ∷ 240 ∷ 215
    ∷ 142 ∷ 85 ∷ 227 ∷ 71 ∷ 228 ∷ 220 ∷ 58 ∷ 121 ∷ 246 ∷ 10 ∷ 46 ∷ 98 ∷ 75 ∷ 157 ∷ 26 ∷ 29 ∷ 182 ∷ 16 ∷ []))
    ∷ at 601 (Arrives (seg 204 90261 26 0 None [])) ∷ at 601 (Arrives (seg 259 90261 25 65535 None [])) ∷ at 601 Shuts ∷ at 601 Closes
    ∷ at 1301 Ticks ∷ at 1301 (Arrives (seg 4 90261 18 100 None [])) ∷ at 3301 Ticks ∷ at 3301 (Arrives (seg 4 90261 18 100 None []))
    ∷ at 7301 Ticks ∷ at 15301 Ticks ∷ at 15301 (Arrives (seg 4 90518 17 30 None []))
    ∷ at 15301 (Arrives (seg 5 90261 16 0 None (replicate 140 75)))
    ∷ at 15301 (Arrives (seg 4 90519 16 65535 None (146 ∷ 113 ∷ 16 ∷ 237 ∷ 88 ∷ 170 ∷ 227 ∷ 155 ∷ 212 ∷ 26 ∷ 55 ∷ 217 ∷ 114 ∷ 139 ∷ 4 ∷ 6 ∷ 179
    ∷ 9 ∷ 132 ∷ 237 ∷ [])))
    ∷ at 15301 (Arrives (seg 205 90518 16 0 None (164 ∷ 110 ∷ 186 ∷ 86 ∷ 203 ∷ 42 ∷ 148 ∷ 227 ∷ 251 ∷ 142 ∷ 9 ∷ 193 ∷ 23 ∷ 189 ∷ 56 ∷ 225 ∷ 212
    ∷ 0 ∷ 41 ∷ 205 ∷ [])))
    ∷ at 15301 (Arrives (seg 260 90518 16 500 None (replicate 140 55))) ∷ at 15302 (Arrives (seg 5 90518 16 100 None (replicate 70 14)))
    ∷ at 15303 (Arrives (seg 266 90518 8 500 None (200 ∷ 194 ∷ 99 ∷ 216 ∷ 46 ∷ [])))
    ∷ at 15603 (Arrives (seg 45 90519 16 30 None (replicate 70 39)))
    ∷ at 15903 (Arrives (seg 4 90468 16 500 None (110 ∷ 150 ∷ 192 ∷ 11 ∷ 158 ∷ 210 ∷ 119 ∷ 221 ∷ 209 ∷ 145 ∷ 7 ∷ 114 ∷ 40 ∷ 103 ∷ 66 ∷ 107 ∷ 200
    ∷ 208 ∷ 90 ∷ 224 ∷ [])))
    ∷ at 15903 (Arrives (seg 8 90518 24 30 None (replicate 70 89))) ∷ at 15903 (Arrives (seg 4 90518 16 500 None (replicate 300 224)))
    ∷ at 16203 (Arrives (seg 260 90517 16 0 None []))
    ∷ at 16203 (Arrives (seg 8 90519 16 0 None (107 ∷ 192 ∷ 181 ∷ 226 ∷ 252 ∷ 138 ∷ 40 ∷ 198 ∷ 10 ∷ 238 ∷ 33 ∷ 131 ∷ 44 ∷ 9 ∷ 0 ∷ 26 ∷ 26 ∷ 117
    ∷ 64 ∷ 10 ∷ [])))
    ∷ at 16203 (Arrives (seg 4 90468 24 30 None [])) ∷ [])
    (open_passive mine peer 90260 (seg 3 0 2 0 (Some 2000) (122 ∷ 122 ∷ [])) 256 256))
    ≡ told TimeWait 258 258 500 [] 2 256 None true (
    (goes 90260 4 18 256 (Some 1460) [] ∷ []) ∷ [] ∷ [] ∷ (goes 90261 4 16 256 None [] ∷ []) ∷ (goes 90261 4 16 256 None [] ∷ []) ∷ [] ∷ []
    ∷ (goes 90261 4 16 256 None [] ∷ []) ∷ (goes 90261 4 24 256 None (replicate 256 48) ∷ []) ∷ (goes 90517 4 17 256 None [] ∷ []) ∷ []
    ∷ (goes 90261 4 24 256 None (replicate 256 48) ∷ []) ∷ (goes 90518 4 16 256 None [] ∷ []) ∷ (goes 90261 4 24 256 None (replicate 256 48) ∷ [])
    ∷ (goes 90518 4 16 256 None [] ∷ []) ∷ (goes 90261 4 24 256 None (replicate 256 48) ∷ []) ∷ (goes 90261 4 24 256 None (replicate 256 48) ∷ [])
    ∷ (goes 90518 5 16 256 None [] ∷ []) ∷ [] ∷ (goes 90518 5 16 256 None [] ∷ []) ∷ [] ∷ [] ∷ [] ∷ (goes 90518 5 16 256 None [] ∷ [])
    ∷ (goes 90518 5 16 256 None [] ∷ []) ∷ [] ∷ [] ∷ (goes 90518 5 16 256 None [] ∷ []) ∷ [] ∷ (goes 90518 5 16 256 None [] ∷ [])
    ∷ (goes 90518 5 16 256 None [] ∷ []) ∷ [])
unfolding arrive emitted after_emission
case_41 = refl

pub case_42 : shown (play (
    at 0 Opens ∷ at 0 (Arrives (seg 2906402157 65537 18 65535 (Some 2000) [])) ∷ at 0 Aborts ∷ [])
    (open_active mine peer 65536 256 512))
    ≡ told Established 1 1 65535 [] 1 512 None false (
    (goes 65536 0 2 512 (Some 1460) [] ∷ []) ∷ (goes 65537 2906402158 16 512 None [] ∷ []) ∷ (goes 65537 2906402158 20 512 None [] ∷ []) ∷ [])
unfolding arrive emitted after_emission
case_42 = refl

pub case_43 : shown (play (
    at 0 Opens ∷ at 0 (Arrives (seg 4294967287 1588754360 16 0 None (replicate 300 192))) ∷ at 0 (Arrives (seg 286 1588754360 17 0 None []))
    ∷ at 0 (Arrives (seg 301 1588754359 16 0 None [])) ∷ at 300 (Arrives (seg 291 1588754360 16 65535 None (replicate 128 226)))
    ∷ at 300 (Commits (replicate 150 130)) ∷ at 1300 Ticks ∷ at 3300 Ticks ∷ at 7300 Ticks ∷ at 15300 Ticks ∷ at 31300 Ticks
    ∷ at 31300 (Arrives (seg 419 1588754360 18 100 None [])) ∷ at 63300 Ticks ∷ at 123300 Ticks
    ∷ at 123300 (Arrives (seg 419 1588754360 16 100 None [])) ∷ at 183300 Ticks ∷ at 243300 Ticks
    ∷ at 243300 (Arrives (seg 429 1588754410 25 30 None (169 ∷ 21 ∷ 45 ∷ 164 ∷ 94 ∷ 11 ∷ 182 ∷ 104 ∷ 166 ∷ 62 ∷ 212 ∷ 237 ∷ 30 ∷ 5 ∷ 42 ∷ 112 ∷ 53
    ∷ 102 ∷ 108 ∷ 125 ∷ [])))
    ∷ at 243301 (Arrives (seg 502 1588754360 16 0 None (replicate 70 104)))
    ∷ at 243301 (Arrives (seg 419 1588754460 16 0 None (201 ∷ 118 ∷ 254 ∷ 5 ∷ 123 ∷ 160 ∷ 187 ∷ 52 ∷ 200 ∷ 44 ∷ 66 ∷ 5 ∷ 36 ∷ 58 ∷ 221 ∷ 19 ∷ 32
    ∷ 103 ∷ 52 ∷ 220 ∷ [])))
    ∷ at 244301 Ticks ∷ at 246301 Ticks ∷ at 250301 Ticks ∷ at 258301 Ticks ∷ at 258301 (Arrives (seg 450 1588754460 18 100 None []))
    ∷ at 274301 Ticks ∷ at 306301 Ticks ∷ at 306301 (Arrives (seg 450 1588754460 18 100 None [])) ∷ at 366301 Ticks ∷ at 426301 Ticks
    ∷ at 486301 Ticks ∷ at 546301 Ticks ∷ at 546301 (Arrives (seg 450 1588754460 18 100 None [])) ∷ at 606301 Ticks ∷ at 666301 Ticks
    ∷ at 726301 Ticks ∷ at 786301 Ticks ∷ at 846301 Ticks ∷ at 906301 Ticks ∷ at 906301 (Arrives (seg 450 1588754460 16 100 None []))
    ∷ at 966301 Ticks ∷ at 966302 (Arrives (seg 460 1588754460 16 65535 None []))
    ∷ at 966302 (Commits (163 ∷ 79 ∷ 225 ∷ 211 ∷ 3 ∷ 138 ∷ 127 ∷ 160 ∷ 155 ∷ 4 ∷ 88 ∷ 31 ∷ 157 ∷ 66 ∷ 61 ∷ 231 ∷ 172 ∷ 130 ∷ 75 ∷ 117 ∷ 14 ∷ 46
    ∷ 136 ∷ 134 ∷ 88 ∷ 225 ∷ 23 ∷ 85 ∷ 47 ∷ 195 ∷ 153 ∷ 69 ∷ 184 ∷ 35 ∷ 190 ∷ 229 ∷ 184 ∷ 41 ∷ 246 ∷ 34 ∷ []))
    ∷ at 966302 (Arrives (seg 490 1588754461 24 65535 None (replicate 140 178)))
    ∷ at 966302 (Arrives (seg 450 1588754411 24 65535 None (replicate 128 168))) ∷ at 967302 Ticks ∷ at 969302 Ticks ∷ at 973302 Ticks
    ∷ at 973302 (Arrives (seg 450 1588754461 16 100 None [])) ∷ at 981302 Ticks ∷ at 997302 Ticks ∷ at 1029302 Ticks ∷ at 1089302 Ticks
    ∷ at 1089302 (Arrives (seg 450 1588754461 18 100 None [])) ∷ at 1149302 Ticks
    ∷ at 1149303 (Arrives (seg 509 2985615028 17 30 None (61 ∷ 141 ∷ 14 ∷ 231 ∷ []))) ∷ at 1149303 (Arrives (seg 410 1588754411 16 0 None []))
    ∷ at 1149303 (Arrives (seg 450 1588754411 16 65535 None []))
    ∷ at 1149303 (Arrives (seg 450 1588754411 17 500 None (116 ∷ 130 ∷ 196 ∷ 184 ∷ 196 ∷ []))) ∷ at 1209302 Ticks
    ∷ at 1209302 (Arrives (seg 450 1588754461 16 100 None [])) ∷ at 1269302 Ticks ∷ at 1329302 Ticks
    ∷ at 1329302 (Arrives (seg 450 1588754461 18 100 None [])) ∷ at 1389302 Ticks ∷ at 1449302 Ticks ∷ at 1509302 Ticks ∷ at 1569302 Ticks
    ∷ at 1629302 Ticks ∷ at 1689302 Ticks ∷ at 1689302 (Arrives (seg 450 1588754463 16 0 None [])) ∷ at 1749302 Ticks ∷ at 1809302 Ticks
    ∷ at 1869302 Ticks ∷ at 1929302 Ticks ∷ at 1989302 Ticks ∷ at 2049302 Ticks ∷ at 2109302 Ticks ∷ at 2169302 Ticks ∷ at 2229302 Ticks
    ∷ at 2229302 (Takes 128) ∷ [])
    (open_passive mine peer 1588754359 (seg 4294967286 0 2 200 (Some 2000) (122 ∷ 122 ∷ [])) 256 512))
    ≡ told Broken 102 103 0 (replicate 172 192 ++ replicate 128 226 ++ (201 ∷ 118 ∷ 254 ∷ 5 ∷ 123 ∷ 160 ∷ 187 ∷ 52 ∷ 200 ∷ 44 ∷ 66 ∷ 5 ∷ 36 ∷ 58 ∷ 221
    ∷ 19 ∷ 32 ∷ 103 ∷ 52 ∷ 220 ∷ 212 ∷ 237 ∷ 30 ∷ 5 ∷ 42 ∷ 112 ∷ 53 ∷ 102 ∷ 108 ∷ 125 ∷ [])) 460 182 None true (
    (goes 1588754359 4294967287 18 512 (Some 1460) [] ∷ []) ∷ (goes 1588754360 291 16 212 None [] ∷ [])
    ∷ (goes 1588754360 291 16 212 None [] ∷ []) ∷ [] ∷ (goes 1588754360 419 16 84 None [] ∷ []) ∷ []
    ∷ (goes 1588754360 419 16 84 None (130 ∷ []) ∷ []) ∷ (goes 1588754360 419 16 84 None (130 ∷ []) ∷ [])
    ∷ (goes 1588754360 419 16 84 None (130 ∷ []) ∷ []) ∷ (goes 1588754360 419 16 84 None (130 ∷ []) ∷ [])
    ∷ (goes 1588754360 419 16 84 None (130 ∷ []) ∷ []) ∷ (goes 1588754361 419 16 84 None [] ∷ [])
    ∷ (goes 1588754360 419 16 84 None (130 ∷ []) ∷ []) ∷ (goes 1588754360 419 16 84 None (130 ∷ []) ∷ [])
    ∷ (goes 1588754361 419 16 84 None (replicate 99 130) ∷ []) ∷ (goes 1588754360 419 16 84 None (replicate 100 130) ∷ [])
    ∷ (goes 1588754360 419 16 84 None (replicate 100 130) ∷ []) ∷ (goes 1588754460 419 16 84 None [] ∷ [])
    ∷ (goes 1588754460 419 16 84 None [] ∷ []) ∷ (goes 1588754460 450 16 54 None [] ∷ []) ∷ (goes 1588754460 450 16 54 None (130 ∷ []) ∷ [])
    ∷ (goes 1588754460 450 16 54 None (130 ∷ []) ∷ []) ∷ (goes 1588754460 450 16 54 None (130 ∷ []) ∷ [])
    ∷ (goes 1588754460 450 16 54 None (130 ∷ []) ∷ []) ∷ (goes 1588754461 450 16 54 None [] ∷ [])
    ∷ (goes 1588754460 450 16 54 None (130 ∷ []) ∷ []) ∷ (goes 1588754460 450 16 54 None (130 ∷ []) ∷ [])
    ∷ (goes 1588754461 450 16 54 None [] ∷ []) ∷ (goes 1588754460 450 16 54 None (130 ∷ []) ∷ [])
    ∷ (goes 1588754460 450 16 54 None (130 ∷ []) ∷ []) ∷ (goes 1588754460 450 16 54 None (130 ∷ []) ∷ [])
    ∷ (goes 1588754460 450 16 54 None (130 ∷ []) ∷ []) ∷ (goes 1588754461 450 16 54 None [] ∷ [])
    ∷ (goes 1588754460 450 16 54 None (130 ∷ []) ∷ []) ∷ (goes 1588754460 450 16 54 None (130 ∷ []) ∷ [])
    ∷ (goes 1588754460 450 16 54 None (130 ∷ []) ∷ []) ∷ (goes 1588754460 450 16 54 None (130 ∷ []) ∷ [])
    ∷ (goes 1588754460 450 16 54 None (130 ∷ []) ∷ []) ∷ (goes 1588754460 450 16 54 None (130 ∷ []) ∷ []) ∷ []
    ∷ (goes 1588754460 450 16 54 None (130 ∷ []) ∷ []) ∷ [] ∷ [] ∷ [] ∷ [] ∷ (goes 1588754461 450 16 54 None (130 ∷ []) ∷ [])
    ∷ (goes 1588754461 450 16 54 None (130 ∷ []) ∷ []) ∷ (goes 1588754461 450 16 54 None (130 ∷ []) ∷ []) ∷ []
    ∷ (goes 1588754461 450 16 54 None (130 ∷ []) ∷ []) ∷ (goes 1588754461 450 16 54 None (130 ∷ []) ∷ [])
    ∷ (goes 1588754461 450 16 54 None (130 ∷ []) ∷ []) ∷ (goes 1588754461 450 16 54 None (130 ∷ []) ∷ [])
    ∷ (goes 1588754462 450 16 54 None [] ∷ []) ∷ (goes 1588754461 450 16 54 None (130 ∷ []) ∷ []) ∷ (goes 1588754462 450 16 54 None [] ∷ [])
    ∷ (goes 1588754462 450 16 54 None [] ∷ []) ∷ [] ∷ [] ∷ (goes 1588754461 450 16 54 None (130 ∷ []) ∷ []) ∷ []
    ∷ (goes 1588754461 450 16 54 None (130 ∷ []) ∷ []) ∷ (goes 1588754461 450 16 54 None (130 ∷ []) ∷ [])
    ∷ (goes 1588754462 450 16 54 None [] ∷ []) ∷ (goes 1588754461 450 16 54 None (130 ∷ []) ∷ [])
    ∷ (goes 1588754461 450 16 54 None (130 ∷ []) ∷ []) ∷ (goes 1588754461 450 16 54 None (130 ∷ []) ∷ [])
    ∷ (goes 1588754461 450 16 54 None (130 ∷ []) ∷ []) ∷ (goes 1588754461 450 16 54 None (130 ∷ []) ∷ [])
    ∷ (goes 1588754461 450 16 54 None (130 ∷ []) ∷ []) ∷ (goes 1588754462 450 16 54 None [] ∷ [])
    ∷ (goes 1588754461 450 16 54 None (130 ∷ []) ∷ []) ∷ (goes 1588754461 450 16 54 None (130 ∷ []) ∷ [])
    ∷ (goes 1588754461 450 16 54 None (130 ∷ []) ∷ []) ∷ (goes 1588754461 450 16 54 None (130 ∷ []) ∷ [])
    ∷ (goes 1588754461 450 16 54 None (130 ∷ []) ∷ []) ∷ (goes 1588754461 450 16 54 None (130 ∷ []) ∷ [])
    ∷ (goes 1588754461 450 16 54 None (130 ∷ []) ∷ []) ∷ (goes 1588754461 450 16 54 None (130 ∷ []) ∷ []) ∷ [] ∷ [] ∷ [])
unfolding arrive emitted after_emission
case_43 = refl

pub case_44 : shown (play (
    at 0 Opens ∷ at 0 (Arrives (seg 501010221 1630301398 18 300 (Some 64) []))
    ∷ at 7 (Arrives (seg 501010232 1630301398 16 0 None (17 ∷ 176 ∷ 197 ∷ 49 ∷ 244 ∷ 243 ∷ 97 ∷ 96 ∷ 66 ∷ 132 ∷ 126 ∷ 25 ∷ 22 ∷ 223 ∷ 19 ∷ 168
    ∷ 189 ∷ 241 ∷ 232 ∷ 77 ∷ [])))
    ∷ at 7 (Arrives (seg 501010182 2750059601 16 500 None [])) ∷ at 8 (Commits (replicate 1 150)) ∷ at 1008 Ticks
    ∷ at 1009 (Arrives (seg 501010225 1630301399 16 0 None (33 ∷ 168 ∷ 249 ∷ 33 ∷ 145 ∷ 251 ∷ 153 ∷ 205 ∷ 206 ∷ 154 ∷ 230 ∷ 37 ∷ 162 ∷ 129 ∷ 67
    ∷ 67 ∷ 67 ∷ 38 ∷ 226 ∷ 202 ∷ [])))
    ∷ at 1009 (Arrives (seg 501010225 3400020811 24 65535 None (replicate 70 57))) ∷ at 1009 Shuts
    ∷ at 1009 (Arrives (seg 501010222 1630301399 28 0 None [])) ∷ at 1009 (Arrives (seg 3199158321 1630301399 16 0 None (replicate 300 34)))
    ∷ at 1010 Closes ∷ at 1010 (Arrives (seg 2398948360 1630301349 16 0 None (replicate 70 127)))
    ∷ at 1310 (Arrives (seg 501010221 1630301398 24 30 None (234 ∷ 57 ∷ 142 ∷ 98 ∷ 128 ∷ [])))
    ∷ at 1317 (Arrives (seg 501010222 1909214727 8 0 None (9 ∷ 88 ∷ 107 ∷ 166 ∷ 173 ∷ [])))
    ∷ at 1317 (Arrives (seg 501010478 1630301399 16 500 None (replicate 128 61)))
    ∷ at 1317 (Arrives (seg 501010217 1630301398 16 65535 None (249 ∷ 15 ∷ 22 ∷ 5 ∷ [])))
    ∷ at 1617 (Arrives (seg 501010222 1630301398 16 30 None [])) ∷ at 1917 (Arrives (seg 501010222 1630301400 17 0 None (replicate 140 204)))
    ∷ at 2217 (Arrives (seg 501010222 1630301399 16 100 None (250 ∷ 54 ∷ 142 ∷ 156 ∷ 123 ∷ [])))
    ∷ at 2218 (Arrives (seg 501010221 1630301398 16 0 None (119 ∷ 103 ∷ 248 ∷ 154 ∷ [])))
    ∷ at 2218 (Arrives (seg 501010217 1630301399 18 500 None (replicate 128 255)))
    ∷ at 2225 (Arrives (seg 501010222 1630301398 16 500 None (replicate 140 131)))
    ∷ at 2232 (Arrives (seg 501010477 1630301399 24 500 None (replicate 140 124)))
    ∷ at 2233 (Arrives (seg 501010232 1630301397 16 0 None (replicate 300 232)))
    ∷ at 2233 (Arrives (seg 501010232 1630301349 8 500 None (replicate 300 15))) ∷ [])
    (open_active mine peer 1630301397 256 256))
    ≡ told Broken 2 2 0 [] 1 256 None false (
    (goes 1630301397 0 2 256 (Some 1460) [] ∷ []) ∷ (goes 1630301398 501010222 16 256 None [] ∷ [])
    ∷ (goes 1630301398 501010222 16 256 None [] ∷ []) ∷ (goes 1630301398 501010222 16 256 None [] ∷ []) ∷ []
    ∷ (goes 1630301398 501010222 24 256 None (150 ∷ []) ∷ []) ∷ (goes 1630301399 501010222 16 256 None [] ∷ [])
    ∷ (goes 1630301399 501010222 16 256 None [] ∷ []) ∷ [] ∷ [] ∷ [] ∷ [] ∷ [] ∷ [] ∷ [] ∷ [] ∷ [] ∷ [] ∷ [] ∷ [] ∷ [] ∷ [] ∷ [] ∷ [] ∷ [] ∷ []
    ∷ [])
unfolding arrive emitted after_emission
case_44 = refl

pub case_45 : shown (play (
    at 0 Opens ∷ at 0 (Arrives (seg 4294967291 351734651 16 30 None (replicate 128 38)))
    ∷ at 300 (Arrives (seg 122 351734650 16 100 None (replicate 300 179)))
    ∷ at 600 (Arrives (seg 382 351734601 16 0 None (162 ∷ 154 ∷ 86 ∷ 93 ∷ 5 ∷ []))) ∷ at 601 (Arrives (seg 421 351734651 24 100 None []))
    ∷ at 601 (Commits (replicate 150 73)) ∷ at 608 (Arrives (seg 506 351734601 17 65535 None (replicate 300 19)))
    ∷ at 608 (Arrives (seg 417 351734726 16 0 None (replicate 300 238)))
    ∷ at 609 (Commits (242 ∷ 180 ∷ 140 ∷ 54 ∷ 43 ∷ 110 ∷ 190 ∷ 170 ∷ 229 ∷ 131 ∷ 120 ∷ 95 ∷ 220 ∷ 114 ∷ 219 ∷ 98 ∷ 66 ∷ 159 ∷ 128 ∷ 152 ∷ 188 ∷ 3
    ∷ 254 ∷ 9 ∷ 88 ∷ 238 ∷ 14 ∷ 174 ∷ 104 ∷ 174 ∷ 133 ∷ 45 ∷ 116 ∷ 249 ∷ 109 ∷ 234 ∷ 116 ∷ 155 ∷ 88 ∷ 114 ∷ []))
    ∷ at 609 (Commits (255 ∷ 70 ∷ 118 ∷ 146 ∷ 243 ∷ [])) ∷ at 909 (Arrives (seg 422 351734651 16 100 None (28 ∷ 250 ∷ 124 ∷ 162 ∷ 252 ∷ [])))
    ∷ at 1601 Ticks ∷ at 1601 (Commits (replicate 300 227)) ∷ at 1602 (Arrives (seg 430 351735146 16 0 None (154 ∷ 56 ∷ 140 ∷ 183 ∷ [])))
    ∷ at 1603 (Arrives (seg 507 351735145 24 500 None (22 ∷ 251 ∷ 87 ∷ 190 ∷ [])))
    ∷ at 1603 (Arrives (seg 512 351735146 17 0 None (replicate 70 232))) ∷ at 1603 (Arrives (seg 506 351734650 16 65535 None (replicate 300 171)))
    ∷ at 1603 (Takes 1000) ∷ at 1603 (Arrives (seg 430 351734650 16 0 None (replicate 140 248)))
    ∷ at 1603 (Arrives (seg 427 351735146 16 65535 None (147 ∷ 33 ∷ 244 ∷ 53 ∷ []))) ∷ at 1903 (Commits (87 ∷ 243 ∷ 139 ∷ 211 ∷ 109 ∷ []))
    ∷ at 2903 Ticks ∷ at 2903 (Arrives (seg 580 351734651 24 500 None [])) ∷ at 3203 Shuts
    ∷ at 3203 (Arrives (seg 570 351735152 16 65535 None (64 ∷ 63 ∷ 136 ∷ 119 ∷ 64 ∷ 249 ∷ 246 ∷ 225 ∷ 192 ∷ 206 ∷ 88 ∷ 173 ∷ 222 ∷ 123 ∷ 239 ∷ 107
    ∷ 135 ∷ 132 ∷ 29 ∷ 44 ∷ [])))
    ∷ at 3503 (Takes 129) ∷ [])
    (open_passive mine peer 351734650 (seg 4294967290 0 2 200 None (122 ∷ 122 ∷ [])) 512 512))
    ≡ told FinWait2 502 502 500 (replicate 14 248 ++ (64 ∷ 63 ∷ 136 ∷ 119 ∷ 64 ∷ 249 ∷ 246 ∷ 225 ∷ 192 ∷ 206 ∷ 88 ∷ 173 ∷ 222 ∷ 123 ∷ 239 ∷ 107 ∷ 135
    ∷ 132 ∷ 29 ∷ 44 ∷ [])) 596 478 None false (
    (goes 351734650 4294967291 18 512 (Some 1460) [] ∷ []) ∷ (goes 351734651 123 16 384 None [] ∷ []) ∷ (goes 351734651 422 16 85 None [] ∷ [])
    ∷ (goes 351734651 422 16 85 None [] ∷ []) ∷ (goes 351734651 422 16 85 None [] ∷ []) ∷ (goes 351734651 422 16 85 None (replicate 100 73) ∷ [])
    ∷ (goes 351734751 422 24 85 None (replicate 50 73) ∷ []) ∷ (goes 351734801 422 16 85 None [] ∷ [])
    ∷ (goes 351734801 422 24 85 None (242 ∷ 180 ∷ 140 ∷ 54 ∷ 43 ∷ 110 ∷ 190 ∷ 170 ∷ 229 ∷ 131 ∷ 120 ∷ 95 ∷ 220 ∷ 114 ∷ 219 ∷ 98 ∷ 66 ∷ 159 ∷ 128
    ∷ 152 ∷ 188 ∷ 3 ∷ 254 ∷ 9 ∷ 88 ∷ 238 ∷ 14 ∷ 174 ∷ 104 ∷ 174 ∷ 133 ∷ 45 ∷ 116 ∷ 249 ∷ 109 ∷ 234 ∷ 116 ∷ 155 ∷ 88 ∷ 114 ∷ []) ∷ [])
    ∷ (goes 351734841 422 24 85 None (255 ∷ 70 ∷ 118 ∷ 146 ∷ 243 ∷ []) ∷ []) ∷ (goes 351734846 427 16 80 None [] ∷ [])
    ∷ (goes 351734651 427 24 80 None (replicate 150 73 ++ (242 ∷ 180 ∷ 140 ∷ 54 ∷ 43 ∷ 110 ∷ 190 ∷ 170 ∷ 229 ∷ 131 ∷ 120 ∷ 95 ∷ 220 ∷ 114 ∷ 219
    ∷ 98 ∷ 66 ∷ 159 ∷ 128 ∷ 152 ∷ 188 ∷ 3 ∷ 254 ∷ 9 ∷ 88 ∷ 238 ∷ 14 ∷ 174 ∷ 104 ∷ 174 ∷ 133 ∷ 45 ∷ 116 ∷ 249 ∷ 109 ∷ 234 ∷ 116 ∷ 155 ∷ 88
    ∷ 114 ∷ 255 ∷ 70 ∷ 118 ∷ 146 ∷ 243 ∷ [])) ∷ [])
    ∷ (goes 351734846 427 24 80 None (replicate 300 227) ∷ []) ∷ (goes 351735146 427 16 80 None [] ∷ []) ∷ (goes 351735146 427 16 80 None [] ∷ [])
    ∷ (goes 351735146 427 16 80 None [] ∷ []) ∷ (goes 351735146 427 16 80 None [] ∷ []) ∷ (goes 351735146 427 16 512 None [] ∷ [])
    ∷ (goes 351735146 427 16 512 None [] ∷ []) ∷ (goes 351735146 570 16 369 None [] ∷ [])
    ∷ (goes 351735146 570 24 369 None (87 ∷ 243 ∷ 139 ∷ 211 ∷ 109 ∷ []) ∷ [])
    ∷ (goes 351735146 570 24 369 None (87 ∷ 243 ∷ 139 ∷ 211 ∷ 109 ∷ []) ∷ []) ∷ [] ∷ (goes 351735151 570 17 369 None [] ∷ [])
    ∷ (goes 351735152 590 16 349 None [] ∷ []) ∷ [] ∷ [])
unfolding arrive emitted after_emission
case_45 = refl

pub case_46 : shown (play (
    at 0 Opens ∷ at 1000 Ticks ∷ at 1007 (Arrives (seg 2507103345 2147483531 18 60 None []))
    ∷ at 1007 (Arrives (seg 2507103345 4294967180 18 65535 None []))
    ∷ at 1007 (Arrives (seg 2507103345 4294967180 24 30 None (replicate 300 196))) ∷ at 1007 Shuts ∷ at 1008 Closes ∷ at 2007 Ticks
    ∷ at 2007 (Arrives (seg 2507103607 4294967179 17 65535 None [])) ∷ at 2007 (Arrives (seg 2507103346 4294967180 16 100 None []))
    ∷ at 2307 (Arrives (seg 3009927709 2468580697 16 500 None (139 ∷ 29 ∷ 250 ∷ 31 ∷ 169 ∷ [])))
    ∷ at 2307 (Arrives (seg 2507103346 4294967180 16 30 None (replicate 128 45)))
    ∷ at 2307 (Arrives (seg 1033470394 4294967130 16 500 None (replicate 70 119)))
    ∷ at 2314 (Arrives (seg 2507103674 4294967179 16 65535 None []))
    ∷ at 2321 (Arrives (seg 2507103477 4294967181 1 0 None (220 ∷ 236 ∷ 75 ∷ 112 ∷ 169 ∷ 153 ∷ 214 ∷ 161 ∷ 174 ∷ 179 ∷ 105 ∷ 86 ∷ 178 ∷ 0 ∷ 125
    ∷ 241 ∷ 24 ∷ 79 ∷ 172 ∷ 44 ∷ [])))
    ∷ at 2321 (Arrives (seg 2507103474 4294967182 24 30 None (96 ∷ 199 ∷ 147 ∷ 202 ∷ 188 ∷ 166 ∷ 53 ∷ 167 ∷ 187 ∷ 37 ∷ 123 ∷ 215 ∷ 86 ∷ 55 ∷ 41
    ∷ 93 ∷ 110 ∷ 16 ∷ 151 ∷ 178 ∷ [])))
    ∷ at 2321 (Arrives (seg 3373318678 4294967180 16 30 None (152 ∷ 246 ∷ 146 ∷ 128 ∷ 20 ∷ [])))
    ∷ at 2321 (Arrives (seg 2507103434 2144517011 16 0 None (replicate 128 184))) ∷ at 4007 Ticks
    ∷ at 4007 (Arrives (seg 2507103730 4294967180 16 500 None (78 ∷ [])))
    ∷ at 4007 (Arrives (seg 2507103473 4294967179 24 100 None (replicate 70 204)))
    ∷ at 4307 (Arrives (seg 2507103798 4294967180 16 0 None (215 ∷ 28 ∷ 115 ∷ 254 ∷ 89 ∷ [])))
    ∷ at 4307 (Arrives (seg 2507103543 4294967130 16 0 None (164 ∷ 49 ∷ 115 ∷ 146 ∷ 124 ∷ [])))
    ∷ at 4307 (Arrives (seg 2507103809 3440021870 16 30 None (replicate 300 240)))
    ∷ at 4308 (Arrives (seg 2507103809 4294967180 25 500 None (62 ∷ 187 ∷ 148 ∷ 151 ∷ 128 ∷ 210 ∷ 30 ∷ 67 ∷ 253 ∷ 237 ∷ 69 ∷ 115 ∷ 252 ∷ 108 ∷ 202
    ∷ 210 ∷ 189 ∷ 12 ∷ 58 ∷ 159 ∷ [])))
    ∷ at 4308 (Arrives (seg 2507103803 4294967181 16 0 None (42 ∷ 163 ∷ 118 ∷ 206 ∷ []))) ∷ [])
    (open_active mine peer 4294967179 512 256))
    ≡ told FinWait2 2 2 0 [] 203 256 None false (
    (goes 4294967179 0 2 256 (Some 1460) [] ∷ []) ∷ (goes 4294967179 0 2 256 (Some 1460) [] ∷ []) ∷ (goes 2147483531 0 4 0 None [] ∷ [])
    ∷ (goes 4294967180 2507103346 16 256 None [] ∷ []) ∷ (goes 4294967180 2507103346 16 256 None [] ∷ [])
    ∷ (goes 4294967180 2507103346 17 256 None [] ∷ []) ∷ [] ∷ (goes 4294967180 2507103346 17 256 None [] ∷ [])
    ∷ (goes 4294967181 2507103346 16 256 None [] ∷ []) ∷ [] ∷ (goes 4294967181 2507103346 16 256 None [] ∷ [])
    ∷ (goes 4294967181 2507103474 16 256 None [] ∷ []) ∷ (goes 4294967181 2507103474 16 256 None [] ∷ []) ∷ [] ∷ []
    ∷ (goes 4294967181 2507103474 16 256 None [] ∷ []) ∷ (goes 4294967181 2507103474 16 256 None [] ∷ [])
    ∷ (goes 4294967181 2507103474 16 256 None [] ∷ []) ∷ (goes 4294967180 2507103474 17 256 None [] ∷ [])
    ∷ (goes 4294967181 2507103474 16 256 None [] ∷ []) ∷ (goes 4294967181 2507103543 16 256 None [] ∷ [])
    ∷ (goes 4294967181 2507103543 16 256 None [] ∷ []) ∷ (goes 4294967181 2507103548 16 256 None [] ∷ [])
    ∷ (goes 4294967181 2507103548 16 256 None [] ∷ []) ∷ (goes 4294967181 2507103548 16 256 None [] ∷ [])
    ∷ (goes 4294967181 2507103548 16 256 None [] ∷ []) ∷ [])
unfolding arrive emitted after_emission
case_46 = refl

pub case_47 : shown (play (
    at 0 Opens ∷ at 1000 Ticks ∷ at 3000 Ticks ∷ at 3000 (Arrives (seg 4294966981 2451659568 18 100 None [])) ∷ at 7000 Ticks ∷ at 15000 Ticks
    ∷ at 31000 Ticks ∷ at 63000 Ticks ∷ at 123000 Ticks ∷ at 183000 Ticks ∷ at 183000 (Arrives (seg 4294966981 2451659568 18 100 None []))
    ∷ at 183000 (Arrives (seg 4294966981 2451659569 16 65535 None (replicate 300 64)))
    ∷ at 183300 (Arrives (seg 4294967276 2451659568 24 100 None (replicate 140 159))) ∷ at 183301 (Takes 3)
    ∷ at 183301 (Arrives (seg 205 2451659519 16 0 None (16 ∷ 135 ∷ 241 ∷ 161 ∷ 11 ∷ [])))
    ∷ at 183302 (Arrives (seg 120 2451659569 24 100 None [])) ∷ at 183302 Aborts ∷ [])
    (open_passive mine peer 2451659568 (seg 4294966980 0 2 0 (Some 200) (122 ∷ 122 ∷ [])) 512 512))
    ≡ told Established 1 1 100 (replicate 297 64 ++ replicate 135 159) 436 80 None false (
    (goes 2451659568 4294966981 18 512 (Some 1460) [] ∷ []) ∷ (goes 2451659568 4294966981 18 512 (Some 1460) [] ∷ [])
    ∷ (goes 2451659568 4294966981 18 512 (Some 1460) [] ∷ []) ∷ (goes 2451659569 4294966981 16 512 None [] ∷ [])
    ∷ (goes 2451659568 4294966981 18 512 (Some 1460) [] ∷ []) ∷ (goes 2451659568 4294966981 18 512 (Some 1460) [] ∷ [])
    ∷ (goes 2451659568 4294966981 18 512 (Some 1460) [] ∷ []) ∷ (goes 2451659568 4294966981 18 512 (Some 1460) [] ∷ [])
    ∷ (goes 2451659568 4294966981 18 512 (Some 1460) [] ∷ []) ∷ (goes 2451659568 4294966981 18 512 (Some 1460) [] ∷ [])
    ∷ (goes 2451659569 4294966981 16 512 None [] ∷ []) ∷ (goes 2451659569 4294967281 16 212 None [] ∷ [])
    ∷ (goes 2451659569 120 16 77 None [] ∷ []) ∷ [] ∷ (goes 2451659569 120 16 80 None [] ∷ []) ∷ [] ∷ (goes 2451659569 120 20 80 None [] ∷ [])
    ∷ [])
unfolding arrive emitted after_emission
case_47 = refl

pub case_48 : shown (play (
    at 0 Opens ∷ at 1000 Ticks ∷ at 1001 (Arrives (seg 4294967216 159105 18 300 (Some 200) [])) ∷ at 1002 (Commits (replicate 1 144))
    ∷ at 1002 (Arrives (seg 4294967217 159106 16 0 None (149 ∷ 254 ∷ 59 ∷ 58 ∷ 115 ∷ 75 ∷ 168 ∷ 241 ∷ 163 ∷ 220 ∷ 56 ∷ 5 ∷ 188 ∷ 216 ∷ 214 ∷ 162
    ∷ 0 ∷ 207 ∷ 240 ∷ 219 ∷ [])))
    ∷ at 1302 (Arrives (seg 4294967197 159107 24 0 None [])) ∷ at 1302 (Arrives (seg 4032612067 159106 16 100 None [])) ∷ at 1302 (Takes 60)
    ∷ at 1302 (Arrives (seg 453 159106 24 0 None (replicate 140 162))) ∷ at 1303 (Arrives (seg 458 159106 24 0 None []))
    ∷ at 1603 (Arrives (seg 4294967277 159056 24 0 None (245 ∷ 96 ∷ 65 ∷ 7 ∷ 234 ∷ 212 ∷ 112 ∷ 158 ∷ 61 ∷ 101 ∷ 17 ∷ 94 ∷ 206 ∷ 48 ∷ 171 ∷ 207
    ∷ 19 ∷ 183 ∷ 84 ∷ 110 ∷ [])))
    ∷ at 1603 Shuts ∷ at 2603 Ticks ∷ at 4603 Ticks ∷ at 8603 Ticks ∷ at 8603 (Arrives (seg 4294967237 159106 18 100 None [])) ∷ at 16603 Ticks
    ∷ at 32603 Ticks ∷ at 32610 (Arrives (seg 3947522613 159108 16 30 None (replicate 300 131)))
    ∷ at 32610 (Arrives (seg 458 4202149117 16 65535 None (158 ∷ [])))
    ∷ at 32610 (Arrives (seg 4294967237 159056 24 30 None (31 ∷ 194 ∷ 180 ∷ 210 ∷ 90 ∷ 137 ∷ 164 ∷ 91 ∷ 198 ∷ 36 ∷ 30 ∷ 1 ∷ 52 ∷ 170 ∷ 212 ∷ 78
    ∷ 120 ∷ 157 ∷ 151 ∷ 212 ∷ [])))
    ∷ at 32610 (Arrives (seg 453 159107 24 0 None (31 ∷ []))) ∷ at 64603 Ticks ∷ at 64603 (Takes 1) ∷ at 64603 (Takes 128) ∷ at 64610 Closes
    ∷ at 64610 (Arrives (seg 4294967252 159107 16 65535 None (replicate 140 51))) ∷ at 64617 Aborts ∷ [])
    (open_active mine peer 159104 256 512))
    ≡ told FinWait2 3 3 0 [] 176 512 None false (
    (goes 159104 0 2 512 (Some 1460) [] ∷ []) ∷ (goes 159104 0 2 512 (Some 1460) [] ∷ []) ∷ (goes 159105 4294967217 16 512 None [] ∷ [])
    ∷ (goes 159105 4294967217 24 512 None (144 ∷ []) ∷ []) ∷ (goes 159106 4294967237 16 492 None [] ∷ [])
    ∷ (goes 159106 4294967237 16 492 None [] ∷ []) ∷ (goes 159106 4294967237 16 492 None [] ∷ []) ∷ []
    ∷ (goes 159106 4294967237 16 512 None [] ∷ []) ∷ (goes 159106 4294967237 16 512 None [] ∷ []) ∷ (goes 159106 4294967237 16 512 None [] ∷ [])
    ∷ [] ∷ (goes 159106 4294967237 17 512 None [] ∷ []) ∷ (goes 159106 4294967237 17 512 None [] ∷ [])
    ∷ (goes 159106 4294967237 17 512 None [] ∷ []) ∷ (goes 159107 4294967237 16 512 None [] ∷ []) ∷ (goes 159106 4294967237 17 512 None [] ∷ [])
    ∷ (goes 159106 4294967237 17 512 None [] ∷ []) ∷ (goes 159107 4294967237 16 512 None [] ∷ []) ∷ (goes 159107 4294967237 16 512 None [] ∷ [])
    ∷ (goes 159107 4294967257 16 492 None [] ∷ []) ∷ (goes 159107 4294967257 16 492 None [] ∷ []) ∷ (goes 159106 4294967257 17 492 None [] ∷ [])
    ∷ [] ∷ [] ∷ [] ∷ (goes 159107 96 16 512 None [] ∷ []) ∷ (goes 159107 96 20 512 None [] ∷ []) ∷ [])
unfolding arrive emitted after_emission
case_48 = refl

pub case_49 : shown (play (
    at 0 Opens ∷ at 0 (Arrives (seg 3257085298 4294967014 16 500 None (49 ∷ []))) ∷ at 0 (Commits (replicate 1 130))
    ∷ at 0 (Commits (167 ∷ 130 ∷ 223 ∷ 250 ∷ 255 ∷ [])) ∷ at 0 (Arrives (seg 3257085299 4294967021 16 0 None []))
    ∷ at 300 (Arrives (seg 3257085554 1594744826 16 0 None (replicate 140 46)))
    ∷ at 300 (Arrives (seg 3257085302 4294967014 16 0 None (replicate 70 68)))
    ∷ at 307 (Arrives (seg 3257085299 4294967020 24 100 None (replicate 70 39)))
    ∷ at 307 (Arrives (seg 3257085412 4294967020 24 0 None (85 ∷ 112 ∷ 159 ∷ 182 ∷ []))) ∷ at 314 (Commits (replicate 1 154))
    ∷ at 314 (Commits (116 ∷ 59 ∷ 18 ∷ 49 ∷ 173 ∷ 49 ∷ 213 ∷ 120 ∷ 24 ∷ 117 ∷ 182 ∷ 140 ∷ 42 ∷ 67 ∷ 172 ∷ 52 ∷ 112 ∷ 32 ∷ 49 ∷ 35 ∷ 240 ∷ 43 ∷ 125
    ∷ 122 ∷ 170 ∷ 254 ∷ 239 ∷ 160 ∷ 183 ∷ 101 ∷ 159 ∷ 28 ∷ 91 ∷ 248 ∷ 149 ∷ 227 ∷ 44 ∷ 32 ∷ 233 ∷ 127 ∷ []))
    ∷ at 1314 Ticks ∷ at 1314 (Arrives (seg 3257085372 4294967020 16 100 None [])) ∷ at 3314 Ticks ∷ at 7314 Ticks ∷ at 15314 Ticks
    ∷ at 15314 (Arrives (seg 3257085372 4294967020 18 100 None [])) ∷ at 31314 Ticks
    ∷ at 31314 (Arrives (seg 3257085372 4294967020 16 100 None [])) ∷ at 63314 Ticks ∷ at 123314 Ticks ∷ at 183314 Ticks ∷ at 243314 Ticks
    ∷ at 243314 (Arrives (seg 3257085372 4294967020 18 100 None []))
    ∷ at 243321 (Arrives (seg 3257085371 4294967019 16 0 None (252 ∷ 226 ∷ 53 ∷ 241 ∷ 25 ∷ 99 ∷ 198 ∷ 212 ∷ 60 ∷ 30 ∷ 92 ∷ 74 ∷ 11 ∷ 16 ∷ 85 ∷ 36
    ∷ 158 ∷ 170 ∷ 29 ∷ 109 ∷ [])))
    ∷ at 243321 (Takes 128) ∷ at 243328 (Arrives (seg 1456680208 4294967021 17 0 None (replicate 128 116)))
    ∷ at 243335 (Commits (replicate 1 180)) ∷ at 243335 (Arrives (seg 3257085391 4294967022 24 0 None (15 ∷ [])))
    ∷ at 243342 (Arrives (seg 3257085431 4294967020 16 500 None (replicate 140 112))) ∷ at 243342 (Commits (replicate 150 210))
    ∷ at 243342 (Commits (replicate 1 102)) ∷ at 243342 (Commits (replicate 150 114))
    ∷ at 243342 (Arrives (seg 3257085646 67 16 100 None (164 ∷ 232 ∷ 73 ∷ 110 ∷ [])))
    ∷ at 243349 (Arrives (seg 3257085390 4294967013 16 100 None (227 ∷ 164 ∷ 34 ∷ 220 ∷ 45 ∷ 223 ∷ 88 ∷ 97 ∷ 176 ∷ 76 ∷ 68 ∷ 2 ∷ 220 ∷ 165 ∷ 71
    ∷ 194 ∷ 163 ∷ 67 ∷ 215 ∷ 38 ∷ [])))
    ∷ at 243349 Shuts ∷ at 243349 (Takes 127) ∷ at 244349 Ticks ∷ at 244349 (Arrives (seg 3257085410 67 16 100 None [])) ∷ at 246349 Ticks
    ∷ at 246349 (Arrives (seg 3257085410 67 16 100 None [])) ∷ at 250349 Ticks ∷ at 258349 Ticks ∷ at 274349 Ticks ∷ at 306349 Ticks
    ∷ at 366349 Ticks ∷ at 426349 Ticks ∷ [])
    (open_passive mine peer 4294967013 (seg 3257085297 0 2 0 (Some 10) (122 ∷ 122 ∷ [])) 512 256))
    ≡ told FinWait1 350 351 100 [] 113 256 (Some 486349) false (
    (goes 4294967013 3257085298 18 256 (Some 1460) [] ∷ []) ∷ (goes 4294967014 3257085299 16 255 None [] ∷ [])
    ∷ (goes 4294967014 3257085299 24 255 None (130 ∷ []) ∷ []) ∷ (goes 4294967015 3257085299 24 255 None (167 ∷ 130 ∷ 223 ∷ 250 ∷ 255 ∷ []) ∷ [])
    ∷ (goes 4294967020 3257085299 16 255 None [] ∷ []) ∷ (goes 4294967020 3257085299 16 255 None [] ∷ [])
    ∷ (goes 4294967020 3257085299 16 255 None [] ∷ []) ∷ (goes 4294967020 3257085372 16 182 None [] ∷ [])
    ∷ (goes 4294967020 3257085372 16 182 None [] ∷ []) ∷ [] ∷ [] ∷ (goes 4294967020 3257085372 16 182 None (154 ∷ []) ∷ []) ∷ []
    ∷ (goes 4294967020 3257085372 16 182 None (154 ∷ []) ∷ []) ∷ (goes 4294967020 3257085372 16 182 None (154 ∷ []) ∷ [])
    ∷ (goes 4294967020 3257085372 16 182 None (154 ∷ []) ∷ []) ∷ (goes 4294967021 3257085372 16 182 None [] ∷ [])
    ∷ (goes 4294967020 3257085372 16 182 None (154 ∷ []) ∷ []) ∷ [] ∷ (goes 4294967020 3257085372 16 182 None (154 ∷ []) ∷ [])
    ∷ (goes 4294967020 3257085372 16 182 None (154 ∷ []) ∷ []) ∷ (goes 4294967020 3257085372 16 182 None (154 ∷ []) ∷ [])
    ∷ (goes 4294967020 3257085372 16 182 None (154 ∷ []) ∷ []) ∷ (goes 4294967021 3257085372 16 182 None [] ∷ [])
    ∷ (goes 4294967021 3257085391 16 163 None [] ∷ []) ∷ [] ∷ (goes 4294967021 3257085391 16 256 None [] ∷ []) ∷ []
    ∷ (goes 4294967021 3257085391 16 256 None [] ∷ [])
    ∷ (goes 4294967021 3257085391 24 256 None (116 ∷ 59 ∷ 18 ∷ 49 ∷ 173 ∷ 49 ∷ 213 ∷ 120 ∷ 24 ∷ 117 ∷ 182 ∷ 140 ∷ 42 ∷ 67 ∷ 172 ∷ 52 ∷ 112 ∷ 32
    ∷ 49 ∷ 35 ∷ 240 ∷ 43 ∷ 125 ∷ 122 ∷ 170 ∷ 254 ∷ 239 ∷ 160 ∷ 183 ∷ 101 ∷ 159 ∷ 28 ∷ 91 ∷ 248 ∷ 149 ∷ 227 ∷ 44 ∷ 32 ∷ 233 ∷ 127 ∷ 180 ∷ [])
    ∷ [])
    ∷ (goes 4294967062 3257085391 16 256 None (replicate 64 210) ∷ goes 4294967126 3257085391 16 256 None (replicate 64 210)
    ∷ goes 4294967190 3257085391 24 256 None (replicate 22 210) ∷ [])
    ∷ (goes 4294967212 3257085391 24 256 None (102 ∷ []) ∷ [])
    ∷ (goes 4294967213 3257085391 16 256 None (replicate 64 114) ∷ goes 4294967277 3257085391 16 256 None (replicate 64 114)
    ∷ goes 45 3257085391 24 256 None (replicate 22 114) ∷ [])
    ∷ (goes 67 3257085391 16 256 None [] ∷ []) ∷ (goes 67 3257085410 16 237 None [] ∷ []) ∷ (goes 67 3257085410 17 237 None [] ∷ []) ∷ []
    ∷ (goes 67 3257085410 17 256 None [] ∷ []) ∷ [] ∷ (goes 67 3257085410 17 256 None [] ∷ []) ∷ [] ∷ (goes 67 3257085410 17 256 None [] ∷ [])
    ∷ (goes 67 3257085410 17 256 None [] ∷ []) ∷ (goes 67 3257085410 17 256 None [] ∷ []) ∷ (goes 67 3257085410 17 256 None [] ∷ [])
    ∷ (goes 67 3257085410 17 256 None [] ∷ []) ∷ (goes 67 3257085410 17 256 None [] ∷ []) ∷ [])
unfolding arrive emitted after_emission
case_49 = refl

pub case_50 : shown (play (
    at 0 Opens ∷ at 0 (Arrives (seg 365879949 61896 18 0 (Some 200) [])) ∷ at 300 (Arrives (seg 365880462 61895 17 100 None (replicate 70 220)))
    ∷ at 301 (Arrives (seg 365879990 61896 16 500 None (replicate 300 255))) ∷ at 301 (Arrives (seg 365879950 1521598372 16 0 None []))
    ∷ at 301 (Commits (replicate 150 70))
    ∷ at 302 (Commits (173 ∷ 159 ∷ 176 ∷ 157 ∷ 242 ∷ 79 ∷ 54 ∷ 36 ∷ 171 ∷ 220 ∷ 208 ∷ 242 ∷ 11 ∷ 219 ∷ 107 ∷ 72 ∷ 156 ∷ 232 ∷ 169 ∷ 16 ∷ 170 ∷ 125
    ∷ 81 ∷ 125 ∷ 180 ∷ 1 ∷ 189 ∷ 126 ∷ 49 ∷ 205 ∷ 219 ∷ 171 ∷ 175 ∷ 231 ∷ 144 ∷ 228 ∷ 99 ∷ 91 ∷ 219 ∷ 200 ∷ []))
    ∷ at 302 (Arrives (seg 365879960 62086 17 30 None (28 ∷ 209 ∷ 175 ∷ 125 ∷ 50 ∷ []))) ∷ at 309 (Arrives (seg 365880461 62085 24 65535 None []))
    ∷ at 310 (Arrives (seg 365879953 62086 24 30 None (replicate 300 128))) ∷ at 317 Shuts
    ∷ at 317 (Arrives (seg 365879910 61896 24 100 None (200 ∷ 179 ∷ 121 ∷ 92 ∷ 243 ∷ 143 ∷ 113 ∷ 48 ∷ 72 ∷ 189 ∷ 49 ∷ 143 ∷ 54 ∷ 203 ∷ 202 ∷ 126
    ∷ 147 ∷ 63 ∷ 160 ∷ 61 ∷ [])))
    ∷ at 324 (Arrives (seg 365880462 62087 2 100 None (replicate 140 221))) ∷ at 324 (Arrives (seg 365879960 2967411024 16 100 None []))
    ∷ at 324 Closes ∷ at 324 (Arrives (seg 365879950 62086 16 0 None (replicate 128 189)))
    ∷ at 324 (Arrives (seg 365879961 62085 17 100 None (replicate 128 207)))
    ∷ at 324 (Arrives (seg 365879969 62036 17 500 None (replicate 140 246))) ∷ at 325 (Arrives (seg 365879966 62085 16 100 None (3 ∷ [])))
    ∷ at 1317 Ticks ∷ at 1317 (Arrives (seg 365880483 62086 24 30 None [])) ∷ at 1318 (Arrives (seg 365879926 62086 24 100 None (118 ∷ [])))
    ∷ at 1318 (Arrives (seg 365880006 2726041937 24 30 None (23 ∷ 14 ∷ 198 ∷ 142 ∷ 17 ∷ 1 ∷ 24 ∷ 34 ∷ 106 ∷ 90 ∷ 198 ∷ 19 ∷ 209 ∷ 113 ∷ 218 ∷ 76
    ∷ 116 ∷ 108 ∷ 184 ∷ 89 ∷ [])))
    ∷ at 1318 (Arrives (seg 365880006 61896 16 100 None (19 ∷ 105 ∷ 38 ∷ 253 ∷ [])))
    ∷ at 1325 (Arrives (seg 365880477 62085 17 500 None (90 ∷ []))) ∷ at 1325 (Arrives (seg 365880166 62085 16 0 None (replicate 70 191))) ∷ [])
    (open_active mine peer 61895 512 512))
    ≡ told Closing 191 192 500 [] 17 512 (Some 3317) true (
    (goes 61895 0 2 512 (Some 1460) [] ∷ []) ∷ (goes 61896 365879950 16 512 None [] ∷ []) ∷ (goes 61896 365879950 16 512 None [] ∷ [])
    ∷ (goes 61896 365879950 16 512 None [] ∷ []) ∷ (goes 61896 365879950 16 512 None [] ∷ [])
    ∷ (goes 61896 365879950 24 512 None (replicate 150 70) ∷ [])
    ∷ (goes 62046 365879950 24 512 None (173 ∷ 159 ∷ 176 ∷ 157 ∷ 242 ∷ 79 ∷ 54 ∷ 36 ∷ 171 ∷ 220 ∷ 208 ∷ 242 ∷ 11 ∷ 219 ∷ 107 ∷ 72 ∷ 156 ∷ 232
    ∷ 169 ∷ 16 ∷ 170 ∷ 125 ∷ 81 ∷ 125 ∷ 180 ∷ 1 ∷ 189 ∷ 126 ∷ 49 ∷ 205 ∷ 219 ∷ 171 ∷ 175 ∷ 231 ∷ 144 ∷ 228 ∷ 99 ∷ 91 ∷ 219 ∷ 200 ∷ []) ∷ [])
    ∷ (goes 62086 365879950 16 512 None [] ∷ []) ∷ [] ∷ (goes 62086 365879950 16 512 None [] ∷ []) ∷ (goes 62086 365879950 17 512 None [] ∷ [])
    ∷ (goes 62087 365879950 16 512 None [] ∷ []) ∷ (goes 62087 365879950 16 512 None [] ∷ []) ∷ [] ∷ []
    ∷ (goes 62087 365879966 16 512 None [] ∷ []) ∷ [] ∷ [] ∷ [] ∷ (goes 62086 365879966 17 512 None [] ∷ [])
    ∷ (goes 62087 365879966 16 512 None [] ∷ []) ∷ (goes 62087 365879966 16 512 None [] ∷ []) ∷ [] ∷ [] ∷ [] ∷ [] ∷ [])
unfolding arrive emitted after_emission
case_50 = refl

pub case_51 : shown (play (
    at 0 Opens
    ∷ at 0 (Arrives (seg 5 33416 16 100 None (16 ∷ 244 ∷ 90 ∷ 177 ∷ 153 ∷ 188 ∷ 229 ∷ 98 ∷ 15 ∷ 224 ∷ 86 ∷ 240 ∷ 6 ∷ 31 ∷ 54 ∷ 55 ∷ 89 ∷ 237 ∷ 8
    ∷ 222 ∷ [])))
    ∷ at 300 (Arrives (seg 24 33416 0 30 None (replicate 300 157))) ∷ at 600 (Arrives (seg 24 33416 24 30 None (replicate 140 103)))
    ∷ at 600 (Arrives (seg 124 33415 20 65535 None (replicate 140 228))) ∷ at 607 Shuts ∷ at 607 (Takes 127) ∷ at 614 (Takes 3)
    ∷ at 615 (Takes 127) ∷ at 1607 Ticks ∷ at 3607 Ticks ∷ at 3607 Closes ∷ at 3607 (Arrives (seg 420 33415 16 100 None []))
    ∷ at 3607 (Arrives (seg 164 33366 16 30 None (207 ∷ 38 ∷ 23 ∷ 60 ∷ 151 ∷ [])))
    ∷ at 3907 (Arrives (seg 169 33417 17 0 None (replicate 300 114))) ∷ at 3914 (Arrives (seg 425 33417 16 65535 None (30 ∷ [])))
    ∷ at 3914 (Arrives (seg 426 33415 16 500 None (249 ∷ 167 ∷ 30 ∷ 20 ∷ 223 ∷ 169 ∷ 97 ∷ 165 ∷ 246 ∷ 52 ∷ 212 ∷ 249 ∷ 23 ∷ 149 ∷ 26 ∷ 103 ∷ 13
    ∷ 232 ∷ 205 ∷ 86 ∷ [])))
    ∷ at 3914 (Arrives (seg 456 33417 17 0 None (replicate 140 29))) ∷ at 3914 (Arrives (seg 486 33417 17 100 None (replicate 70 158)))
    ∷ at 3915 (Arrives (seg 486 33417 8 0 None (166 ∷ 117 ∷ 2 ∷ 240 ∷ []))) ∷ at 3915 (Arrives (seg 646 33417 24 0 None (replicate 128 9)))
    ∷ at 3915 (Arrives (seg 449 33417 16 100 None (20 ∷ 7 ∷ 33 ∷ 55 ∷ 251 ∷ [])))
    ∷ at 3915 (Arrives (seg 702 33418 20 100 None (72 ∷ 117 ∷ 189 ∷ 62 ∷ 117 ∷ []))) ∷ at 3915 (Arrives (seg 441 33416 16 30 None []))
    ∷ at 3922 (Arrives (seg 646 33417 16 100 None [])) ∷ at 3923 (Arrives (seg 446 33417 24 500 None (replicate 70 6))) ∷ [])
    (open_passive mine peer 33415 (seg 4 0 2 200 (Some 200) (122 ∷ 122 ∷ [])) 256 256))
    ≡ told TimeWait 2 2 100 [] 553 256 None true (
    (goes 33415 5 18 256 (Some 1460) [] ∷ []) ∷ (goes 33416 25 16 236 None [] ∷ []) ∷ (goes 33416 25 16 236 None [] ∷ [])
    ∷ (goes 33416 164 16 97 None [] ∷ []) ∷ [] ∷ (goes 33416 164 17 97 None [] ∷ []) ∷ [] ∷ (goes 33417 164 16 227 None [] ∷ []) ∷ []
    ∷ (goes 33416 164 17 256 None [] ∷ []) ∷ (goes 33416 164 17 256 None [] ∷ []) ∷ [] ∷ (goes 33417 164 16 256 None [] ∷ [])
    ∷ (goes 33417 169 16 256 None [] ∷ []) ∷ (goes 33417 425 16 256 None [] ∷ []) ∷ (goes 33417 426 16 256 None [] ∷ [])
    ∷ (goes 33417 446 16 256 None [] ∷ []) ∷ (goes 33417 446 16 256 None [] ∷ []) ∷ (goes 33417 446 16 256 None [] ∷ []) ∷ []
    ∷ (goes 33417 446 16 256 None [] ∷ []) ∷ (goes 33417 446 16 256 None [] ∷ []) ∷ [] ∷ (goes 33417 446 16 256 None [] ∷ []) ∷ []
    ∷ (goes 33417 557 16 256 None [] ∷ []) ∷ [])
unfolding arrive emitted after_emission
case_51 = refl

pub case_52 : shown (play (
    at 0 Opens ∷ at 1000 Ticks ∷ at 3000 Ticks ∷ at 7000 Ticks ∷ at 15000 Ticks ∷ at 31000 Ticks ∷ at 63000 Ticks ∷ at 123000 Ticks
    ∷ at 183000 Ticks ∷ at 183300 (Arrives (seg 4294967084 3672803048 18 65535 (Some 10) [])) ∷ at 183300 (Commits (replicate 1 164))
    ∷ at 183600 (Arrives (seg 4294967085 3672803049 17 500 None (replicate 140 233))) ∷ at 183600 (Commits (109 ∷ 76 ∷ 118 ∷ 231 ∷ 78 ∷ []))
    ∷ at 183600 (Arrives (seg 4294967221 3672803048 24 0 None (replicate 300 38))) ∷ at 183601 (Arrives (seg 4294967229 2585103710 16 0 None []))
    ∷ at 184600 Ticks ∷ at 184600 (Arrives (seg 4294967221 3672803055 24 65535 None (replicate 70 187)))
    ∷ at 184607 (Arrives (seg 301 3672803051 16 500 None (replicate 140 137))) ∷ at 184607 (Arrives (seg 4294967221 3672803048 24 65535 None []))
    ∷ at 184607 (Arrives (seg 4294967226 3672803050 24 65535 None (replicate 70 96))) ∷ at 185607 Ticks ∷ at 185907 (Takes 129)
    ∷ at 186207 (Arrives (seg 4294967266 3672803001 24 0 None (156 ∷ 60 ∷ 168 ∷ 197 ∷ 217 ∷ [])))
    ∷ at 186207 (Arrives (seg 130 3672803052 20 100 None (139 ∷ 240 ∷ 48 ∷ 62 ∷ 169 ∷ []))) ∷ at 186207 (Commits (18 ∷ 168 ∷ 105 ∷ 96 ∷ 56 ∷ []))
    ∷ at 187607 Ticks ∷ at 191607 Ticks ∷ at 199607 Ticks ∷ at 215607 Ticks ∷ at 247607 Ticks
    ∷ at 247607 (Arrives (seg 4294967226 3672803051 16 100 None [])) ∷ at 307607 Ticks ∷ at 367607 Ticks ∷ at 427607 Ticks ∷ at 487607 Ticks
    ∷ at 487607 (Arrives (seg 4294967226 3672803051 18 100 None [])) ∷ at 487607 (Arrives (seg 4294967226 3672803048 16 0 None []))
    ∷ at 487614 (Arrives (seg 4294967226 3672803050 24 100 None (replicate 128 223)))
    ∷ at 487614 (Arrives (seg 430 3774685574 0 0 None (replicate 140 25)))
    ∷ at 487614 (Arrives (seg 4294967225 3672803048 17 30 None (replicate 140 121))) ∷ at 547607 Ticks ∷ at 547907 (Takes 128) ∷ [])
    (open_active mine peer 3672803047 256 512))
    ≡ told CloseWait 4 12 500 [] 142 512 (Some 607607) true (
    (goes 3672803047 0 2 512 (Some 1460) [] ∷ []) ∷ (goes 3672803047 0 2 512 (Some 1460) [] ∷ []) ∷ (goes 3672803047 0 2 512 (Some 1460) [] ∷ [])
    ∷ (goes 3672803047 0 2 512 (Some 1460) [] ∷ []) ∷ (goes 3672803047 0 2 512 (Some 1460) [] ∷ [])
    ∷ (goes 3672803047 0 2 512 (Some 1460) [] ∷ []) ∷ (goes 3672803047 0 2 512 (Some 1460) [] ∷ [])
    ∷ (goes 3672803047 0 2 512 (Some 1460) [] ∷ []) ∷ (goes 3672803047 0 2 512 (Some 1460) [] ∷ [])
    ∷ (goes 3672803048 4294967085 16 512 None [] ∷ []) ∷ (goes 3672803048 4294967085 24 512 None (164 ∷ []) ∷ [])
    ∷ (goes 3672803049 4294967226 16 372 None [] ∷ []) ∷ (goes 3672803049 4294967226 24 372 None (109 ∷ 76 ∷ 118 ∷ 231 ∷ 78 ∷ []) ∷ []) ∷ [] ∷ []
    ∷ (goes 3672803049 4294967226 24 372 None (109 ∷ 76 ∷ 118 ∷ 231 ∷ 78 ∷ []) ∷ []) ∷ (goes 3672803054 4294967226 16 372 None [] ∷ []) ∷ []
    ∷ (goes 3672803054 4294967226 16 372 None [] ∷ []) ∷ [] ∷ (goes 3672803051 4294967226 24 372 None (118 ∷ 231 ∷ 78 ∷ []) ∷ []) ∷ [] ∷ []
    ∷ (goes 3672803054 4294967226 16 501 None [] ∷ []) ∷ (goes 3672803054 4294967226 24 501 None (18 ∷ 168 ∷ 105 ∷ 96 ∷ 56 ∷ []) ∷ [])
    ∷ (goes 3672803051 4294967226 24 501 None (118 ∷ 231 ∷ 78 ∷ 18 ∷ 168 ∷ 105 ∷ 96 ∷ 56 ∷ []) ∷ [])
    ∷ (goes 3672803051 4294967226 24 501 None (118 ∷ 231 ∷ 78 ∷ 18 ∷ 168 ∷ 105 ∷ 96 ∷ 56 ∷ []) ∷ [])
    ∷ (goes 3672803051 4294967226 24 501 None (118 ∷ 231 ∷ 78 ∷ 18 ∷ 168 ∷ 105 ∷ 96 ∷ 56 ∷ []) ∷ [])
    ∷ (goes 3672803051 4294967226 24 501 None (118 ∷ 231 ∷ 78 ∷ 18 ∷ 168 ∷ 105 ∷ 96 ∷ 56 ∷ []) ∷ [])
    ∷ (goes 3672803051 4294967226 24 501 None (118 ∷ 231 ∷ 78 ∷ 18 ∷ 168 ∷ 105 ∷ 96 ∷ 56 ∷ []) ∷ []) ∷ []
    ∷ (goes 3672803051 4294967226 24 501 None (118 ∷ 231 ∷ 78 ∷ 18 ∷ 168 ∷ 105 ∷ 96 ∷ 56 ∷ []) ∷ [])
    ∷ (goes 3672803051 4294967226 24 501 None (118 ∷ 231 ∷ 78 ∷ 18 ∷ 168 ∷ 105 ∷ 96 ∷ 56 ∷ []) ∷ [])
    ∷ (goes 3672803051 4294967226 24 501 None (118 ∷ 231 ∷ 78 ∷ 18 ∷ 168 ∷ 105 ∷ 96 ∷ 56 ∷ []) ∷ [])
    ∷ (goes 3672803051 4294967226 24 501 None (118 ∷ 231 ∷ 78 ∷ 18 ∷ 168 ∷ 105 ∷ 96 ∷ 56 ∷ []) ∷ [])
    ∷ (goes 3672803059 4294967226 16 501 None [] ∷ []) ∷ [] ∷ [] ∷ [] ∷ []
    ∷ (goes 3672803051 4294967226 24 501 None (118 ∷ 231 ∷ 78 ∷ 18 ∷ 168 ∷ 105 ∷ 96 ∷ 56 ∷ []) ∷ []) ∷ [] ∷ [])
unfolding arrive emitted after_emission
case_52 = refl

pub case_53 : shown (play (
    at 0 Opens ∷ at 0 (Arrives (seg 3151819537 67984 18 60 (Some 64) [])) ∷ at 1 Shuts ∷ at 1 Closes
    ∷ at 1 (Arrives (seg 3151819578 67984 24 100 None (79 ∷ 26 ∷ 229 ∷ 245 ∷ [])))
    ∷ at 1 (Arrives (seg 3151819738 67985 16 500 None (replicate 300 168)))
    ∷ at 301 (Arrives (seg 2277991936 67984 24 30 None (235 ∷ 121 ∷ 159 ∷ 120 ∷ []))) ∷ at 302 (Arrives (seg 4211281994 67985 16 500 None []))
    ∷ at 302 (Arrives (seg 3151819498 67984 25 100 None (replicate 300 177)))
    ∷ at 602 (Arrives (seg 3151819799 379359966 18 0 None (replicate 128 12)))
    ∷ at 602 (Arrives (seg 3151820310 67984 16 100 None (replicate 300 186))) ∷ at 602 (Arrives (seg 3151819802 67985 0 0 None []))
    ∷ at 609 (Arrives (seg 3151819798 67985 16 0 None (replicate 300 124)))
    ∷ at 609 (Arrives (seg 3151819999 67986 24 100 None (replicate 128 35)))
    ∷ at 610 (Arrives (seg 3151819809 67985 16 30 None (89 ∷ 6 ∷ 66 ∷ 52 ∷ 34 ∷ [])))
    ∷ at 610 (Arrives (seg 3151819759 67935 24 65535 None (replicate 140 200))) ∷ at 610 (Arrives (seg 3151819809 67985 16 0 None (253 ∷ [])))
    ∷ at 910 (Arrives (seg 3151819809 67985 16 0 None (replicate 70 23)))
    ∷ at 1210 (Arrives (seg 3151820316 67983 25 500 None (161 ∷ 27 ∷ 70 ∷ 133 ∷ 231 ∷ [])))
    ∷ at 1210 (Arrives (seg 3151820310 67935 24 100 None [])) ∷ at 1210 (Arrives (seg 3151819809 67986 16 30 None []))
    ∷ at 1210 (Arrives (seg 3151819839 67985 16 65535 None (replicate 140 166)))
    ∷ at 1217 (Arrives (seg 3151819799 67984 24 500 None (replicate 70 11))) ∷ at 1217 (Arrives (seg 3151819802 67984 24 30 None []))
    ∷ at 1217 (Arrives (seg 3151819809 67986 16 500 None (62 ∷ 96 ∷ 101 ∷ 118 ∷ 215 ∷ 28 ∷ 53 ∷ 183 ∷ 6 ∷ 251 ∷ 134 ∷ 206 ∷ 60 ∷ 83 ∷ 99 ∷ 171
    ∷ 169 ∷ 227 ∷ 179 ∷ 195 ∷ [])))
    ∷ at 1218 (Arrives (seg 3151819799 67985 17 500 None (5 ∷ 181 ∷ 141 ∷ 60 ∷ 251 ∷ []))) ∷ [])
    (open_active mine peer 67983 256 512))
    ≡ told TimeWait 2 2 100 [] 262 512 None true (
    (goes 67983 0 2 512 (Some 1460) [] ∷ []) ∷ (goes 67984 3151819538 16 512 None [] ∷ []) ∷ (goes 67984 3151819538 17 512 None [] ∷ []) ∷ []
    ∷ (goes 67985 3151819538 16 512 None [] ∷ []) ∷ (goes 67985 3151819538 16 512 None [] ∷ []) ∷ (goes 67985 3151819538 16 512 None [] ∷ [])
    ∷ (goes 67985 3151819538 16 512 None [] ∷ []) ∷ (goes 67985 3151819799 16 512 None [] ∷ []) ∷ (goes 67985 3151819799 16 512 None [] ∷ []) ∷ []
    ∷ [] ∷ [] ∷ (goes 67985 3151819799 16 512 None [] ∷ []) ∷ [] ∷ [] ∷ [] ∷ [] ∷ (goes 67985 3151819799 16 512 None [] ∷ []) ∷ []
    ∷ (goes 67985 3151819799 16 512 None [] ∷ []) ∷ [] ∷ [] ∷ [] ∷ (goes 67985 3151819799 16 512 None [] ∷ []) ∷ [] ∷ [])
unfolding arrive emitted after_emission
case_53 = refl

pub case_54 : shown (play (
    at 0 Opens ∷ at 1000 Ticks ∷ at 1000 (Arrives (seg 2 2388432480 18 0 (Some 200) [])) ∷ at 1007 (Arrives (seg 2 2388432479 18 0 (Some 200) []))
    ∷ at 1008 Shuts ∷ at 2008 Ticks ∷ at 4008 Ticks ∷ at 8008 Ticks ∷ at 16008 Ticks ∷ at 32008 Ticks ∷ at 64008 Ticks ∷ at 124008 Ticks
    ∷ at 184008 Ticks ∷ at 244008 Ticks
    ∷ at 244008 (Arrives (seg 3 2388432479 24 500 None (41 ∷ 29 ∷ 229 ∷ 117 ∷ 237 ∷ 81 ∷ 254 ∷ 177 ∷ 156 ∷ 163 ∷ 140 ∷ 22 ∷ 49 ∷ 163 ∷ 196 ∷ 205
    ∷ 215 ∷ 204 ∷ 68 ∷ 220 ∷ [])))
    ∷ at 244008 Closes ∷ at 244009 (Arrives (seg 515 2388432480 24 0 None (replicate 140 48)))
    ∷ at 244009 (Arrives (seg 4294967259 2388432481 17 0 None [])) ∷ at 244309 (Arrives (seg 2 2388432478 24 0 None []))
    ∷ at 244609 (Arrives (seg 3 2388432481 16 0 None (198 ∷ 186 ∷ 6 ∷ 58 ∷ [])))
    ∷ at 244609 (Arrives (seg 3 2388432481 16 0 None (replicate 70 248)))
    ∷ at 244609 (Arrives (seg 43 2388432478 16 65535 None (replicate 140 216)))
    ∷ at 244609 (Arrives (seg 6 2388432480 16 30 None (191 ∷ 83 ∷ 200 ∷ 82 ∷ 140 ∷ 172 ∷ 69 ∷ 53 ∷ 205 ∷ 54 ∷ 152 ∷ 47 ∷ 249 ∷ 54 ∷ 80 ∷ 39 ∷ 3
    ∷ 18 ∷ 181 ∷ 18 ∷ [])))
    ∷ at 244909 (Arrives (seg 3 2388432480 16 0 None (replicate 300 249)))
    ∷ at 244910 (Arrives (seg 4294967259 2388432480 17 0 None (replicate 70 216)))
    ∷ at 244910 (Arrives (seg 203 2388432479 17 500 None (65 ∷ 159 ∷ 62 ∷ 2 ∷ 93 ∷ 217 ∷ 59 ∷ 81 ∷ 244 ∷ 149 ∷ 173 ∷ 143 ∷ 96 ∷ 161 ∷ 122 ∷ 207
    ∷ 50 ∷ 7 ∷ 225 ∷ 225 ∷ [])))
    ∷ at 244910 (Arrives (seg 2 2388432479 16 500 None [])) ∷ at 244910 (Arrives (seg 43 2388432479 17 65535 None (replicate 300 132)))
    ∷ at 244911 (Arrives (seg 203 2388432479 24 100 None (replicate 128 76))) ∷ at 244911 (Arrives (seg 4294967259 2388432478 16 0 None []))
    ∷ at 244911 (Arrives (seg 13 988741531 24 65535 None [])) ∷ at 244918 (Arrives (seg 4294967294 2388432479 16 30 None (replicate 70 194)))
    ∷ at 244918 (Arrives (seg 3 2388432480 16 0 None (102 ∷ 139 ∷ 131 ∷ 187 ∷ 149 ∷ 198 ∷ 180 ∷ 84 ∷ 152 ∷ 240 ∷ 165 ∷ 98 ∷ 229 ∷ 109 ∷ 126 ∷ 152
    ∷ 209 ∷ 184 ∷ 225 ∷ 77 ∷ [])))
    ∷ [])
    (open_active mine peer 2388432478 256 512))
    ≡ told Broken 1 2 0 [] 1 512 None false (
    (goes 2388432478 0 2 512 (Some 1460) [] ∷ []) ∷ (goes 2388432478 0 2 512 (Some 1460) [] ∷ []) ∷ (goes 2388432480 0 4 0 None [] ∷ [])
    ∷ (goes 2388432479 3 16 512 None [] ∷ []) ∷ [] ∷ (goes 2388432479 3 17 512 None [] ∷ []) ∷ (goes 2388432479 3 17 512 None [] ∷ [])
    ∷ (goes 2388432479 3 17 512 None [] ∷ []) ∷ (goes 2388432479 3 17 512 None [] ∷ []) ∷ (goes 2388432479 3 17 512 None [] ∷ [])
    ∷ (goes 2388432479 3 17 512 None [] ∷ []) ∷ (goes 2388432479 3 17 512 None [] ∷ []) ∷ (goes 2388432479 3 17 512 None [] ∷ []) ∷ [] ∷ [] ∷ []
    ∷ [] ∷ [] ∷ [] ∷ [] ∷ [] ∷ [] ∷ [] ∷ [] ∷ [] ∷ [] ∷ [] ∷ [] ∷ [] ∷ [] ∷ [] ∷ [] ∷ [] ∷ [])
unfolding arrive emitted after_emission
case_54 = refl

pub case_55 : shown (play (
    at 0 Opens ∷ at 0 (Arrives (seg 3 65537 16 0 None (7 ∷ 237 ∷ 114 ∷ 26 ∷ [])))
    ∷ at 300 (Commits (103 ∷ 123 ∷ 239 ∷ 89 ∷ 84 ∷ 113 ∷ 158 ∷ 82 ∷ 225 ∷ 107 ∷ 154 ∷ 66 ∷ 212 ∷ 240 ∷ 54 ∷ 204 ∷ 40 ∷ 130 ∷ 28 ∷ 133 ∷ 152 ∷ 160
    ∷ 138 ∷ 64 ∷ 42 ∷ 212 ∷ 231 ∷ 254 ∷ 249 ∷ 35 ∷ 246 ∷ 134 ∷ 181 ∷ 63 ∷ 143 ∷ 114 ∷ 200 ∷ 216 ∷ 241 ∷ 89 ∷ []))
    ∷ at 1300 Ticks ∷ at 3300 Ticks ∷ at 7300 Ticks ∷ at 15300 Ticks
    ∷ at 15300 (Arrives (seg 17 65536 16 100 None (207 ∷ 137 ∷ 250 ∷ 106 ∷ 126 ∷ 94 ∷ 106 ∷ 177 ∷ 228 ∷ 250 ∷ 5 ∷ 24 ∷ 50 ∷ 130 ∷ 93 ∷ 245 ∷ 108
    ∷ 211 ∷ 62 ∷ 216 ∷ [])))
    ∷ at 15300 (Arrives (seg 7 65577 24 500 None (replicate 128 201))) ∷ at 15300 (Arrives (seg 335 3675198976 24 0 None []))
    ∷ at 15300 (Arrives (seg 135 65577 17 0 None (136 ∷ 32 ∷ 203 ∷ 242 ∷ 11 ∷ 162 ∷ 62 ∷ 54 ∷ 20 ∷ 154 ∷ 36 ∷ 119 ∷ 88 ∷ 47 ∷ 246 ∷ 228 ∷ 130 ∷ 14
    ∷ 40 ∷ 195 ∷ [])))
    ∷ at 15300 (Arrives (seg 159 740831327 8 0 None (109 ∷ 202 ∷ 14 ∷ 95 ∷ 72 ∷ [])))
    ∷ at 15300 (Arrives (seg 159 65578 25 100 None (244 ∷ 51 ∷ 179 ∷ 118 ∷ 58 ∷ 49 ∷ 68 ∷ 167 ∷ 3 ∷ 229 ∷ 195 ∷ 87 ∷ 208 ∷ 55 ∷ 131 ∷ 46 ∷ 117 ∷ 9
    ∷ 28 ∷ 191 ∷ [])))
    ∷ at 15300 (Arrives (seg 166 65536 25 65535 None (replicate 128 127)))
    ∷ at 15300 (Arrives (seg 166 65537 25 0 None (10 ∷ 49 ∷ 229 ∷ 68 ∷ 199 ∷ 157 ∷ 68 ∷ 181 ∷ 228 ∷ 151 ∷ 114 ∷ 214 ∷ 197 ∷ 134 ∷ 138 ∷ 241 ∷ 216
    ∷ 19 ∷ 130 ∷ 207 ∷ [])))
    ∷ at 15300 (Arrives (seg 260 65536 16 100 None (159 ∷ 179 ∷ 34 ∷ 38 ∷ []))) ∷ at 15300 (Takes 1000) ∷ at 15307 Shuts ∷ at 15307 Closes
    ∷ at 15307 (Arrives (seg 411 65577 16 65535 None [])) ∷ at 15307 (Arrives (seg 411 2880603422 16 100 None (replicate 128 177)))
    ∷ at 15307 (Arrives (seg 159 65579 16 500 None (replicate 70 141)))
    ∷ at 15307 (Arrives (seg 156 65576 24 500 None (165 ∷ 155 ∷ 68 ∷ 131 ∷ [])))
    ∷ at 15307 (Arrives (seg 159 65527 16 30 None (replicate 70 243))) ∷ at 16307 Ticks ∷ at 18307 Ticks ∷ at 22307 Ticks ∷ at 30307 Ticks
    ∷ at 46307 Ticks ∷ at 78307 Ticks ∷ at 138307 Ticks ∷ at 198307 Ticks ∷ at 198307 (Arrives (seg 156 65577 18 100 None [])) ∷ at 258307 Ticks
    ∷ at 258307 (Arrives (seg 156 65577 16 100 None [])) ∷ at 318307 Ticks ∷ at 318307 (Arrives (seg 155 65537 16 65535 None []))
    ∷ at 318307 (Arrives (seg 411 65576 25 0 None [])) ∷ at 318307 (Arrives (seg 196 65577 24 0 None (181 ∷ 102 ∷ 167 ∷ 83 ∷ 107 ∷ []))) ∷ [])
    (open_passive mine peer 65536 (seg 2 0 2 65535 (Some 200) (122 ∷ 122 ∷ [])) 256 256))
    ≡ told LastAck 41 42 65535 [] 154 256 (Some 378307) true (
    (goes 65536 3 18 256 (Some 1460) [] ∷ []) ∷ (goes 65537 7 16 252 None [] ∷ []) ∷ [] ∷ (goes 65537 7 16 252 None (103 ∷ []) ∷ [])
    ∷ (goes 65537 7 16 252 None (103 ∷ []) ∷ []) ∷ (goes 65537 7 16 252 None (103 ∷ []) ∷ []) ∷ (goes 65537 7 16 252 None (103 ∷ []) ∷ [])
    ∷ (goes 65538 7 24 252 None (123 ∷ 239 ∷ 89 ∷ 84 ∷ 113 ∷ 158 ∷ 82 ∷ 225 ∷ 107 ∷ 154 ∷ 66 ∷ 212 ∷ 240 ∷ 54 ∷ 204 ∷ 40 ∷ 130 ∷ 28 ∷ 133 ∷ 152
    ∷ 160 ∷ 138 ∷ 64 ∷ 42 ∷ 212 ∷ 231 ∷ 254 ∷ 249 ∷ 35 ∷ 246 ∷ 134 ∷ 181 ∷ 63 ∷ 143 ∷ 114 ∷ 200 ∷ 216 ∷ 241 ∷ 89 ∷ []) ∷ [])
    ∷ (goes 65577 135 16 124 None [] ∷ []) ∷ (goes 65577 135 16 124 None [] ∷ []) ∷ (goes 65577 156 16 104 None [] ∷ []) ∷ []
    ∷ (goes 65577 156 16 104 None [] ∷ []) ∷ [] ∷ [] ∷ (goes 65577 156 16 104 None [] ∷ []) ∷ [] ∷ [] ∷ [] ∷ (goes 65577 156 17 256 None [] ∷ [])
    ∷ [] ∷ (goes 65578 156 16 256 None [] ∷ []) ∷ [] ∷ [] ∷ (goes 65577 156 17 256 None [] ∷ []) ∷ (goes 65577 156 17 256 None [] ∷ [])
    ∷ (goes 65577 156 17 256 None [] ∷ []) ∷ (goes 65577 156 17 256 None [] ∷ []) ∷ (goes 65577 156 17 256 None [] ∷ [])
    ∷ (goes 65577 156 17 256 None [] ∷ []) ∷ (goes 65577 156 17 256 None [] ∷ []) ∷ (goes 65577 156 17 256 None [] ∷ [])
    ∷ (goes 65578 156 16 256 None [] ∷ []) ∷ (goes 65577 156 17 256 None [] ∷ []) ∷ [] ∷ (goes 65577 156 17 256 None [] ∷ [])
    ∷ (goes 65578 156 16 256 None [] ∷ []) ∷ [] ∷ [] ∷ [])
unfolding arrive emitted after_emission
case_55 = refl

pub case_56 : shown (play (
    at 0 Opens ∷ at 7 (Arrives (seg 4294967177 2805190935 18 60 (Some 2000) [])) ∷ at 8 Shuts
    ∷ at 8 (Arrives (seg 4294967178 2208827372 16 65535 None (replicate 300 109))) ∷ at 1008 Ticks ∷ at 3008 Ticks ∷ at 7008 Ticks
    ∷ at 7008 (Arrives (seg 182 2805190935 18 100 None [])) ∷ at 15008 Ticks ∷ at 31008 Ticks ∷ at 63008 Ticks ∷ at 123008 Ticks
    ∷ at 123008 (Arrives (seg 182 2805190935 18 100 None [])) ∷ at 183008 Ticks ∷ at 243008 Ticks ∷ at 243008 (Takes 129) ∷ at 243008 (Takes 60)
    ∷ at 303008 Ticks ∷ at 363008 Ticks ∷ at 363008 (Arrives (seg 182 2805190935 16 100 None [])) ∷ at 423008 Ticks
    ∷ at 423008 (Arrives (seg 182 2805190935 18 100 None [])) ∷ at 483008 Ticks ∷ at 543008 Ticks ∷ at 603008 Ticks ∷ at 663008 Ticks
    ∷ at 723008 Ticks ∷ at 783008 Ticks ∷ at 783008 (Arrives (seg 177 2805190936 25 0 None [])) ∷ at 783008 (Takes 3) ∷ at 843008 Ticks
    ∷ at 843308 (Takes 3) ∷ at 843308 (Arrives (seg 182 2805190934 16 0 None (replicate 128 145))) ∷ at 843308 (Takes 1000) ∷ at 843308 Closes
    ∷ at 843608 (Arrives (seg 310 2805190936 16 0 None [])) ∷ at 843615 (Arrives (seg 310 2805190935 16 0 None (182 ∷ 3 ∷ 13 ∷ 238 ∷ [])))
    ∷ at 843615 (Arrives (seg 314 2805190937 24 100 None (replicate 140 254))) ∷ at 843915 (Arrives (seg 274 2805190935 25 30 None []))
    ∷ at 843915 (Arrives (seg 317 2805190936 16 30 None (148 ∷ 107 ∷ 155 ∷ 201 ∷ []))) ∷ at 843916 (Arrives (seg 314 2805190935 16 0 None []))
    ∷ at 843916 (Arrives (seg 826 2805190936 16 0 None (replicate 70 213)))
    ∷ at 844216 (Arrives (seg 317 2805190886 24 0 None (221 ∷ 39 ∷ 20 ∷ 108 ∷ 91 ∷ 233 ∷ 72 ∷ 26 ∷ 159 ∷ 56 ∷ 9 ∷ 95 ∷ 103 ∷ 59 ∷ 220 ∷ 93 ∷ 74
    ∷ 122 ∷ 218 ∷ 246 ∷ [])))
    ∷ at 844216 (Arrives (seg 826 2805190936 16 65535 None [])) ∷ at 844216 Aborts ∷ [])
    (open_active mine peer 2805190934 256 512))
    ≡ told FinWait2 2 2 30 [] 433 512 None false (
    (goes 2805190934 0 2 512 (Some 1460) [] ∷ []) ∷ (goes 2805190935 4294967178 16 512 None [] ∷ [])
    ∷ (goes 2805190935 4294967178 17 512 None [] ∷ []) ∷ (goes 2805190936 182 16 212 None [] ∷ []) ∷ (goes 2805190935 182 17 212 None [] ∷ [])
    ∷ (goes 2805190935 182 17 212 None [] ∷ []) ∷ (goes 2805190935 182 17 212 None [] ∷ []) ∷ (goes 2805190936 182 16 212 None [] ∷ [])
    ∷ (goes 2805190935 182 17 212 None [] ∷ []) ∷ (goes 2805190935 182 17 212 None [] ∷ []) ∷ (goes 2805190935 182 17 212 None [] ∷ [])
    ∷ (goes 2805190935 182 17 212 None [] ∷ []) ∷ (goes 2805190936 182 16 212 None [] ∷ []) ∷ (goes 2805190935 182 17 212 None [] ∷ [])
    ∷ (goes 2805190935 182 17 212 None [] ∷ []) ∷ [] ∷ [] ∷ (goes 2805190935 182 17 401 None [] ∷ []) ∷ (goes 2805190935 182 17 401 None [] ∷ [])
    ∷ [] ∷ (goes 2805190935 182 17 401 None [] ∷ []) ∷ (goes 2805190936 182 16 401 None [] ∷ []) ∷ (goes 2805190935 182 17 401 None [] ∷ [])
    ∷ (goes 2805190935 182 17 401 None [] ∷ []) ∷ (goes 2805190935 182 17 401 None [] ∷ []) ∷ (goes 2805190935 182 17 401 None [] ∷ [])
    ∷ (goes 2805190935 182 17 401 None [] ∷ []) ∷ (goes 2805190935 182 17 401 None [] ∷ []) ∷ (goes 2805190936 182 16 401 None [] ∷ []) ∷ []
    ∷ (goes 2805190935 182 17 404 None [] ∷ []) ∷ [] ∷ (goes 2805190936 310 16 279 None [] ∷ []) ∷ [] ∷ [] ∷ []
    ∷ (goes 2805190936 314 16 512 None [] ∷ []) ∷ (goes 2805190936 314 16 512 None [] ∷ []) ∷ (goes 2805190936 314 16 512 None [] ∷ [])
    ∷ (goes 2805190936 314 16 512 None [] ∷ []) ∷ [] ∷ (goes 2805190936 314 16 512 None [] ∷ []) ∷ (goes 2805190936 314 16 512 None [] ∷ [])
    ∷ (goes 2805190936 314 16 512 None [] ∷ []) ∷ (goes 2805190936 314 20 512 None [] ∷ []) ∷ [])
unfolding arrive emitted after_emission
case_56 = refl

pub case_57 : shown (play (
    at 0 Opens ∷ at 0 (Arrives (seg 1 2208258538 16 500 None (72 ∷ [])))
    ∷ at 0 (Commits (202 ∷ 111 ∷ 212 ∷ 228 ∷ 6 ∷ 234 ∷ 228 ∷ 10 ∷ 198 ∷ 25 ∷ 174 ∷ 224 ∷ 23 ∷ 238 ∷ 11 ∷ 155 ∷ 0 ∷ 153 ∷ 178 ∷ 187 ∷ 188 ∷ 135 ∷ 9
    ∷ 241 ∷ 80 ∷ 70 ∷ 28 ∷ 223 ∷ 142 ∷ 82 ∷ 1 ∷ 132 ∷ 213 ∷ 126 ∷ 75 ∷ 18 ∷ 58 ∷ 21 ∷ 139 ∷ 161 ∷ []))
    ∷ at 1 (Commits (replicate 1 91)) ∷ at 2 (Arrives (seg 2 2208258538 16 0 None (replicate 128 85))) ∷ at 1000 Ticks ∷ at 3000 Ticks
    ∷ at 7000 Ticks ∷ at 15000 Ticks ∷ at 15000 (Arrives (seg 130 2208258538 18 100 None []))
    ∷ at 15000 (Arrives (seg 170 2208258537 18 0 None (replicate 70 203))) ∷ at 31000 Ticks ∷ at 63000 Ticks ∷ at 123000 Ticks
    ∷ at 123000 (Arrives (seg 130 2208258538 16 100 None [])) ∷ at 183000 Ticks ∷ at 243000 Ticks ∷ at 303000 Ticks ∷ at 363000 Ticks
    ∷ at 363000 (Arrives (seg 130 2208258538 16 100 None [])) ∷ at 423000 Ticks ∷ at 483000 Ticks ∷ at 543000 Ticks ∷ at 603000 Ticks
    ∷ at 603000 (Commits (245 ∷ 91 ∷ 129 ∷ 23 ∷ 247 ∷ 105 ∷ 76 ∷ 9 ∷ 67 ∷ 235 ∷ 95 ∷ 62 ∷ 150 ∷ 226 ∷ 142 ∷ 228 ∷ 164 ∷ 92 ∷ 60 ∷ 182 ∷ 97 ∷ 117
    ∷ 99 ∷ 237 ∷ 71 ∷ 28 ∷ 70 ∷ 184 ∷ 135 ∷ 93 ∷ 126 ∷ 180 ∷ 176 ∷ 154 ∷ 114 ∷ 91 ∷ 163 ∷ 244 ∷ 125 ∷ 86 ∷ []))
    ∷ at 603001 (Arrives (seg 256 2208258619 16 65535 None (181 ∷ 11 ∷ 195 ∷ 192 ∷ 130 ∷ 55 ∷ 139 ∷ 169 ∷ 204 ∷ 131 ∷ 68 ∷ 227 ∷ 51 ∷ 172 ∷ 72
    ∷ 171 ∷ 170 ∷ 145 ∷ 176 ∷ 36 ∷ [])))
    ∷ at 603002 (Arrives (seg 130 2208258619 16 0 None (89 ∷ 129 ∷ 218 ∷ 18 ∷ 174 ∷ 38 ∷ 162 ∷ 177 ∷ 51 ∷ 112 ∷ 101 ∷ 254 ∷ 73 ∷ 254 ∷ 194 ∷ 3
    ∷ 192 ∷ 21 ∷ 80 ∷ 113 ∷ [])))
    ∷ at 603302 (Arrives (seg 256 2208258619 16 0 None (189 ∷ 143 ∷ 200 ∷ 216 ∷ 201 ∷ 129 ∷ 4 ∷ 200 ∷ 44 ∷ 67 ∷ 242 ∷ 5 ∷ 8 ∷ 57 ∷ 162 ∷ 88 ∷ 170
    ∷ 162 ∷ 158 ∷ 48 ∷ [])))
    ∷ at 603303 (Arrives (seg 160 2208258618 17 0 None (84 ∷ 122 ∷ 148 ∷ 197 ∷ []))) ∷ at 603603 (Takes 60)
    ∷ at 603603 (Arrives (seg 160 2208258538 28 100 None []))
    ∷ at 603603 (Commits (24 ∷ 38 ∷ 127 ∷ 221 ∷ 54 ∷ 240 ∷ 188 ∷ 157 ∷ 239 ∷ 238 ∷ 9 ∷ 9 ∷ 48 ∷ 51 ∷ 187 ∷ 187 ∷ 158 ∷ 229 ∷ 231 ∷ 246 ∷ 80 ∷ 126
    ∷ 6 ∷ 140 ∷ 4 ∷ 250 ∷ 138 ∷ 37 ∷ 65 ∷ 223 ∷ 240 ∷ 218 ∷ 134 ∷ 216 ∷ 231 ∷ 140 ∷ 175 ∷ 228 ∷ 210 ∷ 50 ∷ []))
    ∷ at 603603 (Commits (63 ∷ 9 ∷ 96 ∷ 121 ∷ 219 ∷ [])) ∷ at 603610 Shuts ∷ at 604603 Ticks
    ∷ at 604603 (Arrives (seg 150 2208258620 24 500 None (replicate 70 236))) ∷ at 605603 Ticks ∷ at 605610 (Takes 3) ∷ at 605611 Closes
    ∷ at 605611 (Arrives (seg 426 2208258621 24 30 None (177 ∷ 213 ∷ 113 ∷ 146 ∷ 200 ∷ []))) ∷ [])
    (open_passive mine peer 2208258537 (seg 0 0 2 200 (Some 64) (122 ∷ 122 ∷ [])) 256 256))
    ≡ told Closing 83 84 0 [] 165 256 (Some 607603) true (
    (goes 2208258537 1 18 256 (Some 1460) [] ∷ []) ∷ (goes 2208258538 2 16 255 None [] ∷ [])
    ∷ (goes 2208258538 2 24 255 None (202 ∷ 111 ∷ 212 ∷ 228 ∷ 6 ∷ 234 ∷ 228 ∷ 10 ∷ 198 ∷ 25 ∷ 174 ∷ 224 ∷ 23 ∷ 238 ∷ 11 ∷ 155 ∷ 0 ∷ 153 ∷ 178
    ∷ 187 ∷ 188 ∷ 135 ∷ 9 ∷ 241 ∷ 80 ∷ 70 ∷ 28 ∷ 223 ∷ 142 ∷ 82 ∷ 1 ∷ 132 ∷ 213 ∷ 126 ∷ 75 ∷ 18 ∷ 58 ∷ 21 ∷ 139 ∷ 161 ∷ []) ∷ [])
    ∷ (goes 2208258578 2 24 255 None (91 ∷ []) ∷ []) ∷ (goes 2208258579 130 16 127 None [] ∷ [])
    ∷ (goes 2208258538 130 24 127 None (202 ∷ 111 ∷ 212 ∷ 228 ∷ 6 ∷ 234 ∷ 228 ∷ 10 ∷ 198 ∷ 25 ∷ 174 ∷ 224 ∷ 23 ∷ 238 ∷ 11 ∷ 155 ∷ 0 ∷ 153 ∷ 178
    ∷ 187 ∷ 188 ∷ 135 ∷ 9 ∷ 241 ∷ 80 ∷ 70 ∷ 28 ∷ 223 ∷ 142 ∷ 82 ∷ 1 ∷ 132 ∷ 213 ∷ 126 ∷ 75 ∷ 18 ∷ 58 ∷ 21 ∷ 139 ∷ 161 ∷ 91 ∷ []) ∷ [])
    ∷ (goes 2208258538 130 24 127 None (202 ∷ 111 ∷ 212 ∷ 228 ∷ 6 ∷ 234 ∷ 228 ∷ 10 ∷ 198 ∷ 25 ∷ 174 ∷ 224 ∷ 23 ∷ 238 ∷ 11 ∷ 155 ∷ 0 ∷ 153 ∷ 178
    ∷ 187 ∷ 188 ∷ 135 ∷ 9 ∷ 241 ∷ 80 ∷ 70 ∷ 28 ∷ 223 ∷ 142 ∷ 82 ∷ 1 ∷ 132 ∷ 213 ∷ 126 ∷ 75 ∷ 18 ∷ 58 ∷ 21 ∷ 139 ∷ 161 ∷ 91 ∷ []) ∷ [])
    ∷ (goes 2208258538 130 24 127 None (202 ∷ 111 ∷ 212 ∷ 228 ∷ 6 ∷ 234 ∷ 228 ∷ 10 ∷ 198 ∷ 25 ∷ 174 ∷ 224 ∷ 23 ∷ 238 ∷ 11 ∷ 155 ∷ 0 ∷ 153 ∷ 178
    ∷ 187 ∷ 188 ∷ 135 ∷ 9 ∷ 241 ∷ 80 ∷ 70 ∷ 28 ∷ 223 ∷ 142 ∷ 82 ∷ 1 ∷ 132 ∷ 213 ∷ 126 ∷ 75 ∷ 18 ∷ 58 ∷ 21 ∷ 139 ∷ 161 ∷ 91 ∷ []) ∷ [])
    ∷ (goes 2208258538 130 24 127 None (202 ∷ 111 ∷ 212 ∷ 228 ∷ 6 ∷ 234 ∷ 228 ∷ 10 ∷ 198 ∷ 25 ∷ 174 ∷ 224 ∷ 23 ∷ 238 ∷ 11 ∷ 155 ∷ 0 ∷ 153 ∷ 178
    ∷ 187 ∷ 188 ∷ 135 ∷ 9 ∷ 241 ∷ 80 ∷ 70 ∷ 28 ∷ 223 ∷ 142 ∷ 82 ∷ 1 ∷ 132 ∷ 213 ∷ 126 ∷ 75 ∷ 18 ∷ 58 ∷ 21 ∷ 139 ∷ 161 ∷ 91 ∷ []) ∷ [])
    ∷ (goes 2208258579 130 16 127 None [] ∷ []) ∷ (goes 2208258579 130 16 127 None [] ∷ [])
    ∷ (goes 2208258538 130 24 127 None (202 ∷ 111 ∷ 212 ∷ 228 ∷ 6 ∷ 234 ∷ 228 ∷ 10 ∷ 198 ∷ 25 ∷ 174 ∷ 224 ∷ 23 ∷ 238 ∷ 11 ∷ 155 ∷ 0 ∷ 153 ∷ 178
    ∷ 187 ∷ 188 ∷ 135 ∷ 9 ∷ 241 ∷ 80 ∷ 70 ∷ 28 ∷ 223 ∷ 142 ∷ 82 ∷ 1 ∷ 132 ∷ 213 ∷ 126 ∷ 75 ∷ 18 ∷ 58 ∷ 21 ∷ 139 ∷ 161 ∷ 91 ∷ []) ∷ [])
    ∷ (goes 2208258538 130 24 127 None (202 ∷ 111 ∷ 212 ∷ 228 ∷ 6 ∷ 234 ∷ 228 ∷ 10 ∷ 198 ∷ 25 ∷ 174 ∷ 224 ∷ 23 ∷ 238 ∷ 11 ∷ 155 ∷ 0 ∷ 153 ∷ 178
    ∷ 187 ∷ 188 ∷ 135 ∷ 9 ∷ 241 ∷ 80 ∷ 70 ∷ 28 ∷ 223 ∷ 142 ∷ 82 ∷ 1 ∷ 132 ∷ 213 ∷ 126 ∷ 75 ∷ 18 ∷ 58 ∷ 21 ∷ 139 ∷ 161 ∷ 91 ∷ []) ∷ [])
    ∷ (goes 2208258538 130 24 127 None (202 ∷ 111 ∷ 212 ∷ 228 ∷ 6 ∷ 234 ∷ 228 ∷ 10 ∷ 198 ∷ 25 ∷ 174 ∷ 224 ∷ 23 ∷ 238 ∷ 11 ∷ 155 ∷ 0 ∷ 153 ∷ 178
    ∷ 187 ∷ 188 ∷ 135 ∷ 9 ∷ 241 ∷ 80 ∷ 70 ∷ 28 ∷ 223 ∷ 142 ∷ 82 ∷ 1 ∷ 132 ∷ 213 ∷ 126 ∷ 75 ∷ 18 ∷ 58 ∷ 21 ∷ 139 ∷ 161 ∷ 91 ∷ []) ∷ [])
    ∷ []
    ∷ (goes 2208258538 130 24 127 None (202 ∷ 111 ∷ 212 ∷ 228 ∷ 6 ∷ 234 ∷ 228 ∷ 10 ∷ 198 ∷ 25 ∷ 174 ∷ 224 ∷ 23 ∷ 238 ∷ 11 ∷ 155 ∷ 0 ∷ 153 ∷ 178
    ∷ 187 ∷ 188 ∷ 135 ∷ 9 ∷ 241 ∷ 80 ∷ 70 ∷ 28 ∷ 223 ∷ 142 ∷ 82 ∷ 1 ∷ 132 ∷ 213 ∷ 126 ∷ 75 ∷ 18 ∷ 58 ∷ 21 ∷ 139 ∷ 161 ∷ 91 ∷ []) ∷ [])
    ∷ (goes 2208258538 130 24 127 None (202 ∷ 111 ∷ 212 ∷ 228 ∷ 6 ∷ 234 ∷ 228 ∷ 10 ∷ 198 ∷ 25 ∷ 174 ∷ 224 ∷ 23 ∷ 238 ∷ 11 ∷ 155 ∷ 0 ∷ 153 ∷ 178
    ∷ 187 ∷ 188 ∷ 135 ∷ 9 ∷ 241 ∷ 80 ∷ 70 ∷ 28 ∷ 223 ∷ 142 ∷ 82 ∷ 1 ∷ 132 ∷ 213 ∷ 126 ∷ 75 ∷ 18 ∷ 58 ∷ 21 ∷ 139 ∷ 161 ∷ 91 ∷ []) ∷ [])
    ∷ (goes 2208258538 130 24 127 None (202 ∷ 111 ∷ 212 ∷ 228 ∷ 6 ∷ 234 ∷ 228 ∷ 10 ∷ 198 ∷ 25 ∷ 174 ∷ 224 ∷ 23 ∷ 238 ∷ 11 ∷ 155 ∷ 0 ∷ 153 ∷ 178
    ∷ 187 ∷ 188 ∷ 135 ∷ 9 ∷ 241 ∷ 80 ∷ 70 ∷ 28 ∷ 223 ∷ 142 ∷ 82 ∷ 1 ∷ 132 ∷ 213 ∷ 126 ∷ 75 ∷ 18 ∷ 58 ∷ 21 ∷ 139 ∷ 161 ∷ 91 ∷ []) ∷ [])
    ∷ (goes 2208258538 130 24 127 None (202 ∷ 111 ∷ 212 ∷ 228 ∷ 6 ∷ 234 ∷ 228 ∷ 10 ∷ 198 ∷ 25 ∷ 174 ∷ 224 ∷ 23 ∷ 238 ∷ 11 ∷ 155 ∷ 0 ∷ 153 ∷ 178
    ∷ 187 ∷ 188 ∷ 135 ∷ 9 ∷ 241 ∷ 80 ∷ 70 ∷ 28 ∷ 223 ∷ 142 ∷ 82 ∷ 1 ∷ 132 ∷ 213 ∷ 126 ∷ 75 ∷ 18 ∷ 58 ∷ 21 ∷ 139 ∷ 161 ∷ 91 ∷ []) ∷ [])
    ∷ []
    ∷ (goes 2208258538 130 24 127 None (202 ∷ 111 ∷ 212 ∷ 228 ∷ 6 ∷ 234 ∷ 228 ∷ 10 ∷ 198 ∷ 25 ∷ 174 ∷ 224 ∷ 23 ∷ 238 ∷ 11 ∷ 155 ∷ 0 ∷ 153 ∷ 178
    ∷ 187 ∷ 188 ∷ 135 ∷ 9 ∷ 241 ∷ 80 ∷ 70 ∷ 28 ∷ 223 ∷ 142 ∷ 82 ∷ 1 ∷ 132 ∷ 213 ∷ 126 ∷ 75 ∷ 18 ∷ 58 ∷ 21 ∷ 139 ∷ 161 ∷ 91 ∷ []) ∷ [])
    ∷ (goes 2208258538 130 24 127 None (202 ∷ 111 ∷ 212 ∷ 228 ∷ 6 ∷ 234 ∷ 228 ∷ 10 ∷ 198 ∷ 25 ∷ 174 ∷ 224 ∷ 23 ∷ 238 ∷ 11 ∷ 155 ∷ 0 ∷ 153 ∷ 178
    ∷ 187 ∷ 188 ∷ 135 ∷ 9 ∷ 241 ∷ 80 ∷ 70 ∷ 28 ∷ 223 ∷ 142 ∷ 82 ∷ 1 ∷ 132 ∷ 213 ∷ 126 ∷ 75 ∷ 18 ∷ 58 ∷ 21 ∷ 139 ∷ 161 ∷ 91 ∷ []) ∷ [])
    ∷ (goes 2208258538 130 24 127 None (202 ∷ 111 ∷ 212 ∷ 228 ∷ 6 ∷ 234 ∷ 228 ∷ 10 ∷ 198 ∷ 25 ∷ 174 ∷ 224 ∷ 23 ∷ 238 ∷ 11 ∷ 155 ∷ 0 ∷ 153 ∷ 178
    ∷ 187 ∷ 188 ∷ 135 ∷ 9 ∷ 241 ∷ 80 ∷ 70 ∷ 28 ∷ 223 ∷ 142 ∷ 82 ∷ 1 ∷ 132 ∷ 213 ∷ 126 ∷ 75 ∷ 18 ∷ 58 ∷ 21 ∷ 139 ∷ 161 ∷ 91 ∷ []) ∷ [])
    ∷ (goes 2208258538 130 24 127 None (202 ∷ 111 ∷ 212 ∷ 228 ∷ 6 ∷ 234 ∷ 228 ∷ 10 ∷ 198 ∷ 25 ∷ 174 ∷ 224 ∷ 23 ∷ 238 ∷ 11 ∷ 155 ∷ 0 ∷ 153 ∷ 178
    ∷ 187 ∷ 188 ∷ 135 ∷ 9 ∷ 241 ∷ 80 ∷ 70 ∷ 28 ∷ 223 ∷ 142 ∷ 82 ∷ 1 ∷ 132 ∷ 213 ∷ 126 ∷ 75 ∷ 18 ∷ 58 ∷ 21 ∷ 139 ∷ 161 ∷ 91 ∷ []) ∷ [])
    ∷ (goes 2208258579 130 24 127 None (245 ∷ 91 ∷ 129 ∷ 23 ∷ 247 ∷ 105 ∷ 76 ∷ 9 ∷ 67 ∷ 235 ∷ 95 ∷ 62 ∷ 150 ∷ 226 ∷ 142 ∷ 228 ∷ 164 ∷ 92 ∷ 60
    ∷ 182 ∷ 97 ∷ 117 ∷ 99 ∷ 237 ∷ 71 ∷ 28 ∷ 70 ∷ 184 ∷ 135 ∷ 93 ∷ 126 ∷ 180 ∷ 176 ∷ 154 ∷ 114 ∷ 91 ∷ 163 ∷ 244 ∷ 125 ∷ 86 ∷ []) ∷ [])
    ∷ (goes 2208258619 130 16 127 None [] ∷ []) ∷ (goes 2208258619 150 16 107 None [] ∷ []) ∷ (goes 2208258619 150 16 107 None [] ∷ [])
    ∷ (goes 2208258619 150 16 107 None [] ∷ []) ∷ [] ∷ (goes 2208258619 150 16 167 None [] ∷ []) ∷ [] ∷ [] ∷ []
    ∷ (goes 2208258619 150 16 167 None (24 ∷ []) ∷ []) ∷ (goes 2208258620 165 16 153 None [] ∷ [])
    ∷ (goes 2208258620 165 16 153 None (38 ∷ []) ∷ []) ∷ [] ∷ [] ∷ (goes 2208258621 165 16 256 None [] ∷ []) ∷ [])
unfolding arrive emitted after_emission
case_57 = refl

pub case_58 : shown (play (
    at 0 Opens ∷ at 1000 Ticks ∷ at 3000 Ticks ∷ at 7000 Ticks ∷ at 15000 Ticks
    ∷ at 15000 (Arrives (seg 4294967148 177099116 18 60 (Some 2000) [])) ∷ at 15000 (Arrives (seg 4294967148 177099115 17 100 None (116 ∷ [])))
    ∷ at 15007 (Commits (116 ∷ 232 ∷ 47 ∷ 90 ∷ 44 ∷ [])) ∷ at 15014 (Arrives (seg 115 177099116 1 500 None (replicate 300 65)))
    ∷ at 15014 (Arrives (seg 4294967145 177099066 16 0 None (replicate 70 36))) ∷ at 16007 Ticks ∷ at 16007 Shuts
    ∷ at 16307 (Arrives (seg 4294967149 177099116 17 65535 None (42 ∷ 175 ∷ 62 ∷ 104 ∷ 193 ∷ []))) ∷ at 16607 Closes
    ∷ at 16607 (Arrives (seg 4294967153 177099115 16 65535 None (60 ∷ 216 ∷ 12 ∷ 227 ∷ 23 ∷ 102 ∷ 251 ∷ 137 ∷ 54 ∷ 187 ∷ 185 ∷ 66 ∷ 125 ∷ 53 ∷ 60
    ∷ 65 ∷ 168 ∷ 211 ∷ 216 ∷ 166 ∷ [])))
    ∷ at 16607 (Arrives (seg 4294967150 177099066 24 500 None (replicate 70 84)))
    ∷ at 16607 (Arrives (seg 54 177099115 16 500 None (replicate 70 35))) ∷ at 16907 (Arrives (seg 115 177099116 24 0 None []))
    ∷ at 17207 (Arrives (seg 4294967153 177099119 16 100 None (replicate 300 236)))
    ∷ at 17207 (Arrives (seg 2229517592 177099122 24 0 None (158 ∷ 26 ∷ 178 ∷ 11 ∷ 88 ∷ []))) ∷ at 17207 Aborts ∷ [])
    (open_active mine peer 177099115 256 256))
    ≡ told LastAck 4 7 500 [] 2 256 None true (
    (goes 177099115 0 2 256 (Some 1460) [] ∷ []) ∷ (goes 177099115 0 2 256 (Some 1460) [] ∷ []) ∷ (goes 177099115 0 2 256 (Some 1460) [] ∷ [])
    ∷ (goes 177099115 0 2 256 (Some 1460) [] ∷ []) ∷ (goes 177099115 0 2 256 (Some 1460) [] ∷ [])
    ∷ (goes 177099116 4294967149 16 256 None [] ∷ []) ∷ (goes 177099116 4294967150 16 256 None [] ∷ [])
    ∷ (goes 177099116 4294967150 24 256 None (116 ∷ 232 ∷ 47 ∷ 90 ∷ 44 ∷ []) ∷ []) ∷ (goes 177099121 4294967150 16 256 None [] ∷ []) ∷ []
    ∷ (goes 177099116 4294967150 24 256 None (116 ∷ 232 ∷ 47 ∷ 90 ∷ 44 ∷ []) ∷ []) ∷ (goes 177099121 4294967150 17 256 None [] ∷ []) ∷ [] ∷ []
    ∷ [] ∷ [] ∷ [] ∷ (goes 177099122 4294967150 16 256 None [] ∷ []) ∷ [] ∷ (goes 177099122 4294967150 16 256 None [] ∷ [])
    ∷ (goes 177099122 4294967150 20 256 None [] ∷ []) ∷ [])
unfolding arrive emitted after_emission
case_58 = refl

pub case_59 : shown (play (
    at 0 Opens ∷ at 0 (Arrives (seg 4294967048 4294967144 16 65535 None []))
    ∷ at 0 (Arrives (seg 13 2260413732 16 30 None (115 ∷ 174 ∷ 204 ∷ 156 ∷ 66 ∷ 29 ∷ 197 ∷ 230 ∷ 186 ∷ 130 ∷ 181 ∷ 75 ∷ 74 ∷ 246 ∷ 109 ∷ 124 ∷ 241
    ∷ 115 ∷ 223 ∷ 119 ∷ [])))
    ∷ at 0 (Arrives (seg 4294967048 3576073579 16 65535 None [])) ∷ at 7 (Commits (replicate 150 78))
    ∷ at 307 (Arrives (seg 4294967008 4294967144 16 30 None (135 ∷ 217 ∷ 15 ∷ 10 ∷ 84 ∷ [])))
    ∷ at 307 (Arrives (seg 4294967043 3389116109 16 65535 None (replicate 300 103))) ∷ at 307 (Arrives (seg 4294967058 4294967143 16 500 None []))
    ∷ at 607 (Arrives (seg 4294967008 1978232639 17 500 None [])) ∷ at 907 (Arrives (seg 4294967048 4294967294 0 100 None (replicate 300 156)))
    ∷ at 908 (Commits (replicate 300 126)) ∷ at 908 (Arrives (seg 4294967048 4294967143 16 500 None (replicate 140 215))) ∷ at 1007 Ticks
    ∷ at 1007 (Arrives (seg 13 299 16 500 None (52 ∷ 87 ∷ 177 ∷ 248 ∷ 32 ∷ 220 ∷ 51 ∷ 44 ∷ 11 ∷ 243 ∷ 127 ∷ 78 ∷ 247 ∷ 200 ∷ 246 ∷ 150 ∷ 64 ∷ 59
    ∷ 189 ∷ 143 ∷ [])))
    ∷ at 1007 (Commits (replicate 150 206)) ∷ at 3007 Ticks ∷ at 7007 Ticks ∷ at 15007 Ticks ∷ at 31007 Ticks
    ∷ at 31007 (Arrives (seg 4294967188 4294967144 18 100 None [])) ∷ at 31007 (Arrives (seg 8 3371465993 16 0 None [])) ∷ at 63007 Ticks
    ∷ at 63008 Shuts ∷ at 63008 (Arrives (seg 4294967198 348 16 500 None [])) ∷ at 63008 (Arrives (seg 92 354 16 30 None (replicate 140 120)))
    ∷ at 63015 (Arrives (seg 4294967228 361 17 500 None [])) ∷ at 63015 (Takes 3) ∷ at 63015 (Takes 1000) ∷ at 63015 Closes
    ∷ at 63016 (Arrives (seg 92 2340362491 18 500 None (replicate 300 226))) ∷ [])
    (open_passive mine peer 4294967143 (seg 4294967047 0 2 200 (Some 2000) (122 ∷ 122 ∷ [])) 512 256))
    ≡ told FinWait2 514 514 500 [] 141 256 None false (
    (goes 4294967143 4294967048 18 256 (Some 1460) [] ∷ []) ∷ [] ∷ (goes 4294967144 4294967048 16 256 None [] ∷ []) ∷ []
    ∷ (goes 4294967144 4294967048 24 256 None (replicate 150 78) ∷ []) ∷ (goes 4294967294 4294967048 16 256 None [] ∷ [])
    ∷ (goes 4294967294 4294967048 16 256 None [] ∷ []) ∷ [] ∷ (goes 4294967294 4294967048 16 256 None [] ∷ []) ∷ []
    ∷ (goes 4294967294 4294967048 24 256 None (replicate 300 126) ∷ []) ∷ (goes 298 4294967188 16 116 None [] ∷ [])
    ∷ (goes 4294967144 4294967188 24 116 None (replicate 150 78 ++ replicate 300 126) ∷ []) ∷ (goes 298 4294967188 16 116 None [] ∷ [])
    ∷ (goes 298 4294967188 16 116 None (replicate 50 206) ∷ [])
    ∷ (goes 4294967144 4294967188 16 116 None (replicate 150 78 ++ replicate 300 126 ++ replicate 50 206) ∷ [])
    ∷ (goes 4294967144 4294967188 16 116 None (replicate 150 78 ++ replicate 300 126 ++ replicate 50 206) ∷ [])
    ∷ (goes 4294967144 4294967188 16 116 None (replicate 150 78 ++ replicate 300 126 ++ replicate 50 206) ∷ [])
    ∷ (goes 4294967144 4294967188 16 116 None (replicate 150 78 ++ replicate 300 126 ++ replicate 50 206) ∷ [])
    ∷ (goes 348 4294967188 16 116 None [] ∷ []) ∷ (goes 348 4294967188 16 116 None [] ∷ [])
    ∷ (goes 4294967144 4294967188 16 116 None (replicate 150 78 ++ replicate 300 126 ++ replicate 50 206) ∷ []) ∷ []
    ∷ (goes 348 4294967188 24 116 None (replicate 12 206) ∷ goes 360 4294967188 17 116 None [] ∷ []) ∷ (goes 361 4294967188 16 116 None [] ∷ [])
    ∷ (goes 361 4294967188 16 116 None [] ∷ []) ∷ [] ∷ (goes 361 4294967188 16 256 None [] ∷ []) ∷ [] ∷ (goes 361 4294967188 16 256 None [] ∷ [])
    ∷ [])
unfolding arrive emitted after_emission
case_59 = refl
